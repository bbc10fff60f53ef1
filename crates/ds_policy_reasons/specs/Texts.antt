-- How what is wrong is told and mended: each cause has the words of the constant that has its name.
use Rattle.std.specs.Prelude.{ℕ, List}
use Rattle.ds_policy.specs.declared.events.cause.InputCause.{InputCause}
use Rattle.ds_policy.specs.declared.events.cause.InputCause.TheVariants as input
use Rattle.ds_policy.specs.declared.cause.ProcessCause.{ProcessCause}
use Rattle.ds_policy.specs.declared.cause.ProcessCause.TheVariants as process
use Rattle.ds_policy.specs.declared.cause.PageCause.{PageCause}
use Rattle.ds_policy.specs.declared.cause.PageCause.TheVariants as page
use Rattle.ds_policy.specs.declared.cause.RuleCause.{RuleCause}
use Rattle.ds_policy.specs.declared.cause.RuleCause.TheVariants as rule
use Rattle.ds_policy.specs.declared.cause.PolicyReason.{PolicyReason}
use Rattle.ds_policy.specs.declared.cause.PolicyReason.TheVariants as reason
use Rattle.ds_policy_reasons.specs.declared.input_texts.TheConstants.{CARRIAGE_RETURN, TAB, BLANK_AT_START, BLANK_AT_END, TWO_BLANKS, BAD_TIME, UNKNOWN_EVENT, WORD_COUNT, BAD_PROCESS, BAD_ADDRESS, UNKNOWN_PAGE, BAD_RIGHT, BAD_GIVE, BAD_LINE, BAD_BYTES, EARLIER_TIME, TOO_MANY_EVENTS}
use Rattle.ds_policy_reasons.specs.declared.policy_texts.TheConstants.{NOT_TOML, OTHER_KEY, BAD_VERSION, BAD_FRAMES, BAD_RATE, PROCESS_COUNT, PAGE_COUNT, RULE_COUNT, PROCESS_NOT_TABLE, PROCESS_OTHER_KEY, BAD_START, PROCESS_BAD_LINE, PAGE_NOT_TABLE, PAGE_OTHER_KEY, BAD_NAME, BAD_SOURCE, BAD_PART, SAME_NAME}
use Rattle.ds_policy_reasons.specs.declared.rule_texts.TheConstants.{RULE_NOT_TABLE, RULE_OTHER_KEY, UNTIL_OF_VERSION_1, RULE_BAD_PROCESS, RULE_BAD_ADDRESS, RULE_BAD_RIGHT, PAGE_OF_NONE, UNTIL_OF_NONE, BAD_PAGE, RULE_BAD_GIVE, BAD_UNTIL, SAME_PLACE, TOO_MANY_RULES, FIFTH_REGION}

-- of a line of an input
abbrev pub input_cause_text : InputCause → List ℕ
input_cause_text input.CarriageReturn = CARRIAGE_RETURN.now
input_cause_text input.Tab = TAB.now
input_cause_text input.BlankAtStart = BLANK_AT_START.now
input_cause_text input.BlankAtEnd = BLANK_AT_END.now
input_cause_text input.TwoBlanks = TWO_BLANKS.now
input_cause_text input.BadTime = BAD_TIME.now
input_cause_text input.UnknownEvent = UNKNOWN_EVENT.now
input_cause_text input.WordCount = WORD_COUNT.now
input_cause_text input.BadProcess = BAD_PROCESS.now
input_cause_text input.BadAddress = BAD_ADDRESS.now
input_cause_text input.UnknownPage = UNKNOWN_PAGE.now
input_cause_text input.BadRight = BAD_RIGHT.now
input_cause_text input.BadGive = BAD_GIVE.now
input_cause_text input.BadLine = BAD_LINE.now
input_cause_text input.BadBytes = BAD_BYTES.now
input_cause_text input.EarlierTime = EARLIER_TIME.now
input_cause_text input.TooManyEvents = TOO_MANY_EVENTS.now

-- of a process
abbrev pub process_cause_text : ProcessCause → List ℕ
process_cause_text process.NotTable = PROCESS_NOT_TABLE.now
process_cause_text process.OtherKey = PROCESS_OTHER_KEY.now
process_cause_text process.BadStart = BAD_START.now
process_cause_text process.BadLine = PROCESS_BAD_LINE.now

-- of a page
abbrev pub page_cause_text : PageCause → List ℕ
page_cause_text page.NotTable = PAGE_NOT_TABLE.now
page_cause_text page.OtherKey = PAGE_OTHER_KEY.now
page_cause_text page.BadName = BAD_NAME.now
page_cause_text page.BadSource = BAD_SOURCE.now
page_cause_text page.BadPart = BAD_PART.now
page_cause_text page.SameName = SAME_NAME.now

-- of a rule
abbrev pub rule_cause_text : RuleCause → List ℕ
rule_cause_text rule.NotTable = RULE_NOT_TABLE.now
rule_cause_text rule.OtherKey = RULE_OTHER_KEY.now
rule_cause_text rule.UntilOfVersion1 = UNTIL_OF_VERSION_1.now
rule_cause_text rule.BadProcess = RULE_BAD_PROCESS.now
rule_cause_text rule.BadAddress = RULE_BAD_ADDRESS.now
rule_cause_text rule.BadRight = RULE_BAD_RIGHT.now
rule_cause_text rule.PageOfNone = PAGE_OF_NONE.now
rule_cause_text rule.UntilOfNone = UNTIL_OF_NONE.now
rule_cause_text rule.BadPage = BAD_PAGE.now
rule_cause_text rule.BadGive = RULE_BAD_GIVE.now
rule_cause_text rule.BadUntil = BAD_UNTIL.now
rule_cause_text rule.SamePlace = SAME_PLACE.now
rule_cause_text rule.TooManyRules = TOO_MANY_RULES.now
rule_cause_text rule.FifthRegion = FIFTH_REGION.now

-- of a policy
abbrev pub policy_reason_text : PolicyReason → List ℕ
policy_reason_text reason.NotToml = NOT_TOML.now
policy_reason_text reason.OtherKey = OTHER_KEY.now
policy_reason_text reason.BadVersion = BAD_VERSION.now
policy_reason_text reason.BadFrames = BAD_FRAMES.now
policy_reason_text reason.BadRate = BAD_RATE.now
policy_reason_text reason.ProcessCount = PROCESS_COUNT.now
policy_reason_text reason.PageCount = PAGE_COUNT.now
policy_reason_text reason.RuleCount = RULE_COUNT.now
policy_reason_text (reason.Process number cause) = process_cause_text cause
policy_reason_text (reason.Page number cause) = page_cause_text cause
policy_reason_text (reason.Rule number cause) = rule_cause_text cause
