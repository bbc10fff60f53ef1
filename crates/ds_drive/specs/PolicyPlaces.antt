-- Where in its text the key or the item stands for which a policy is refused.
use Rattle.std.specs.Prelude.{codes, ℕ, List, Option, None, Some}
use Rattle.std.specs.Option.{option_or}
use Rattle.ds_check.specs.declared.items.Items.{Items}
use Rattle.ds_check.specs.declared.items.Items.TheVariants.{Processes, Pages, Rules}
use Rattle.ds_check.specs.declared.places.Place.{Place}
use Rattle.ds_check.specs.Items.{item_place, root_key_place}
use Rattle.ds_policy.specs.declared.cause.ProcessCause.{ProcessCause}
use Rattle.ds_policy.specs.declared.cause.ProcessCause.TheVariants as process
use Rattle.ds_policy.specs.declared.cause.PageCause.{PageCause}
use Rattle.ds_policy.specs.declared.cause.PageCause.TheVariants as page
use Rattle.ds_policy.specs.declared.cause.RuleCause.{RuleCause}
use Rattle.ds_policy.specs.declared.cause.RuleCause.TheVariants as rule
use Rattle.ds_policy.specs.declared.cause.PolicyReason.{PolicyReason}
use Rattle.ds_policy.specs.declared.cause.PolicyReason.TheVariants as reason
use Rattle.ds_policy_reasons.specs.Keys.{OddKey, odd_key}

-- the key of a process that a cause is of
abbrev pub process_key : ProcessCause → Option (List ℕ)
process_key process.NotTable = None
process_key process.OtherKey = None
process_key process.BadStart = Some (codes "start")
process_key process.BadLine = Some (codes "line")

-- the key of a page
abbrev pub page_key : PageCause → Option (List ℕ)
page_key page.NotTable = None
page_key page.OtherKey = None
page_key page.BadName = Some (codes "name")
page_key page.BadSource = Some (codes "source")
page_key page.BadPart = Some (codes "part")
page_key page.SameName = Some (codes "name")

-- the key of a rule; of one rule too many it is none
abbrev pub rule_key : RuleCause → Option (List ℕ)
rule_key rule.NotTable = None
rule_key rule.OtherKey = None
rule_key rule.UntilOfVersion1 = Some (codes "until")
rule_key rule.BadProcess = Some (codes "process")
rule_key rule.BadAddress = Some (codes "address")
rule_key rule.BadRight = Some (codes "right")
rule_key rule.PageOfNone = Some (codes "right")
rule_key rule.UntilOfNone = Some (codes "until")
rule_key rule.BadPage = Some (codes "page")
rule_key rule.BadGive = Some (codes "give")
rule_key rule.BadUntil = Some (codes "until")
rule_key rule.SamePlace = Some (codes "address")
rule_key rule.TooManyRules = None
rule_key rule.FifthRegion = Some (codes "address")

-- where the key of an array stands, or else the item of this number
abbrev pub array_place : List ℕ → List ℕ → Items → ℕ → Option Place
array_place text key items number = option_or (root_key_place text key) (item_place text items number None)

-- where a process stands, or its key; what is no table stands in an array with a key
abbrev pub process_place : List ℕ → ℕ → ProcessCause → Option Place
process_place text number process.NotTable = root_key_place text (codes "process")
process_place text number cause = item_place text Processes number (process_key cause)

-- where a page does
abbrev pub page_place : List ℕ → ℕ → PageCause → Option Place
page_place text number page.NotTable = root_key_place text (codes "page")
page_place text number cause = item_place text Pages number (page_key cause)

-- where a rule does
abbrev pub rule_place : List ℕ → ℕ → RuleCause → Option Place
rule_place text number rule.NotTable = root_key_place text (codes "rule")
rule_place text number cause = item_place text Rules number (rule_key cause)

-- where a key stands that no policy has
abbrev pub odd_place : Option OddKey → Option Place
odd_place None = None
odd_place (Some key) = Some (record { line = key.line; column = key.column })

-- where the key or the item stands that a reason is of; of too many pages it is the key `frames`
abbrev pub reason_place : List ℕ → PolicyReason → Option Place
reason_place text reason.NotToml = None
reason_place text reason.OtherKey = odd_place (odd_key text)
reason_place text reason.BadVersion = root_key_place text (codes "version")
reason_place text reason.BadFrames = root_key_place text (codes "frames")
reason_place text reason.BadRate = root_key_place text (codes "rate")
reason_place text reason.ProcessCount = array_place text (codes "process") Processes 101
reason_place text (reason.Process number cause) = process_place text number cause
reason_place text reason.PageCount = option_or (root_key_place text (codes "page")) (root_key_place text (codes "frames"))
reason_place text (reason.Page number cause) = page_place text number cause
reason_place text reason.RuleCount = array_place text (codes "rule") Rules 1000
reason_place text (reason.Rule number cause) = rule_place text number cause

-- where it does, if there is a reason
abbrev pub place_of_reason : List ℕ → Option PolicyReason → Option Place
place_of_reason text None = None
place_of_reason text (Some why) = reason_place text why
