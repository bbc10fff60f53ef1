-- A reason is given where a policy or an input is refused, and nowhere else.
use Rattle.std.proofs.Common.{◌≡◌, refl, ℕ, List, Result, Ok, Err, option_map}
use Rattle.std.specs.Result.{result_err}
use Rattle.ds_policy.specs.declared.events.cause.InputReason.{InputReason}
use Rattle.ds_policy.specs.declared.policy.PolicyPage.{PolicyPage}
use Rattle.ds_policy.specs.InputText.{read_input, input_of}
use Rattle.ds_policy.specs.PolicyText.{read_policy, policy_of}
use Rattle.ds_policy.specs.Refusal.{refusal_of, told_as}
use Rattle.ds_policy_reasons.specs.Reasons.{input_reason, policy_reason}

told : {A R S : Type 0} (tell : R → S) (r : Result A R) → option_map tell (result_err r) ≡ result_err (told_as tell r)
told tell (Ok x) = refl
told tell (Err r) = refl

pub input_told : (pages : List PolicyPage) (text : List ℕ) → option_map (λ (r : InputReason). r.line) (input_reason pages text) ≡ result_err (input_of pages text)
input_told pages text = told (λ (r : InputReason). r.line) (read_input pages text)

pub policy_told : (text : List ℕ) → option_map refusal_of (policy_reason text) ≡ result_err (policy_of text)
unfolding policy_of
policy_told text = told refusal_of (read_policy text)
