-- What is told besides of a policy that is refused: the key that no policy has, or that the text is a source.
use Rattle.std.specs.Prelude.{ℕ, Bool, true, false, ◌&&◌, if◌then◌else◌, List, [], Option, None, Some}
use Rattle.ds_policy.specs.declared.cause.ProcessCause.TheVariants as process
use Rattle.ds_policy.specs.declared.cause.PageCause.TheVariants as page
use Rattle.ds_policy.specs.declared.cause.RuleCause.TheVariants as rule
use Rattle.ds_policy.specs.declared.cause.ProcessCause.{ProcessCause}
use Rattle.ds_policy.specs.declared.cause.PageCause.{PageCause}
use Rattle.ds_policy.specs.declared.cause.RuleCause.{RuleCause}
use Rattle.ds_policy.specs.declared.cause.PolicyReason.{PolicyReason}
use Rattle.ds_policy.specs.declared.cause.PolicyReason.TheVariants as reason
use Rattle.ds_policy_reasons.specs.Keys.{OddKey, odd_key, odd_key_text}
use Rattle.ds_policy_reasons.specs.Kinds.{reads_as_policy, reads_as_source}
use Rattle.ds_drive.specs.declared.hints.TheConstants.{POLICY_GIVEN, SOURCE_GIVEN}
use Rattle.ds_drive.specs.declared.refused.FaultyPolicy.{FaultyPolicy}

-- whether a process has a key that no process has
abbrev pub is_other_of_process : ProcessCause → Bool
is_other_of_process process.OtherKey = true
is_other_of_process _ = false

-- whether a page has
abbrev pub is_other_of_page : PageCause → Bool
is_other_of_page page.OtherKey = true
is_other_of_page _ = false

-- whether a rule has
abbrev pub is_other_of_rule : RuleCause → Bool
is_other_of_rule rule.OtherKey = true
is_other_of_rule _ = false

-- whether a policy is refused for a key that does not belong where it stands
abbrev pub is_other_key : PolicyReason → Bool
is_other_key reason.OtherKey = true
is_other_key (reason.Process n cause) = is_other_of_process cause
is_other_key (reason.Page n cause) = is_other_of_page cause
is_other_key (reason.Rule n cause) = is_other_of_rule cause
is_other_key _ = false

-- whether it is refused as no document
abbrev pub is_no_document : PolicyReason → Bool
is_no_document reason.NotToml = true
is_no_document _ = false

-- the words of a key that no policy has, where there is one
abbrev pub odd_told : Option OddKey → List ℕ
odd_told None = []
odd_told (Some key) = odd_key_text key

-- what is told of a text besides the reason for which it is refused
abbrev pub hint_of : List ℕ → PolicyReason → List ℕ
hint_of text why =
    if is_other_key why then odd_told (odd_key text)
    else if is_no_document why && reads_as_source text then SOURCE_GIVEN.now
    else []

-- the same where there is a reason
abbrev pub hint_if : List ℕ → Option PolicyReason → List ℕ
hint_if text None = []
hint_if text (Some why) = hint_of text why

-- the same of a policy that is at fault in a place that is known, if one is
abbrev pub policy_hint : Option FaultyPolicy → Option PolicyReason → List ℕ
policy_hint None why = []
policy_hint (Some policy) why = hint_if policy.text.items why

-- what is told of a source that is refused, and is a policy
abbrev pub source_hint : List ℕ → List ℕ
source_hint text = if reads_as_policy text then POLICY_GIVEN.now else []
