-- What a reader returned, beside what a definition says.
use Rattle.std.specs.Prelude.{codes, ℕ, Bool, true, false, List, Option, Some, None, Result, Ok, Err}
use Rattle.std.specs.Result.{result_map_both}
use Rattle.ds_policy.specs.declared.cause.PolicyReason.{PolicyReason}
use Rattle.ds_policy.specs.declared.cause.PolicyReason.TheVariants as reason

-- why a policy text has no policy
pub data PolicyRefusal : Type 0 where
  bad_toml : PolicyRefusal
  limit : List ℕ → PolicyRefusal
  bad_rule : ℕ → PolicyRefusal

-- the refusal of a reason
abbrev pub refusal_of : PolicyReason → PolicyRefusal
refusal_of reason.NotToml = bad_toml
refusal_of reason.OtherKey = limit (codes "key")
refusal_of reason.BadVersion = limit (codes "version")
refusal_of reason.BadFrames = limit (codes "frames")
refusal_of reason.BadRate = limit (codes "rate")
refusal_of reason.ProcessCount = limit (codes "process")
refusal_of (reason.Process number cause) = limit (codes "process")
refusal_of reason.PageCount = limit (codes "page")
refusal_of (reason.Page number cause) = limit (codes "page")
refusal_of reason.RuleCount = limit (codes "rule")
refusal_of (reason.Rule number cause) = bad_rule number

-- the value, or a reason where there is none
abbrev pub or_else : {A R : Type 0} → Option A → R → Result A R
or_else (Some x) r = Ok x
or_else None r = Err r

-- goes on only where it holds
abbrev pub check : {R : Type 0} → Bool → R → Result Bool R
check true r = Ok true
check false r = Err r

-- the reason as another one
abbrev pub told_as : {A R S : Type 0} → (R → S) → Result A R → Result A S
told_as tell read = result_map_both (λ x. x) tell read
