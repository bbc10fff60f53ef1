-- Why a policy or an input is refused.
use Rattle.std.specs.Prelude.{ℕ, List, Option}
use Rattle.std.specs.Result.{result_err}
use Rattle.ds_policy.specs.declared.cause.PolicyReason.{PolicyReason}
use Rattle.ds_policy.specs.declared.events.cause.InputReason.{InputReason}
use Rattle.ds_policy.specs.declared.policy.PolicyPage.{PolicyPage}
use Rattle.ds_policy.specs.InputText.{read_input}
use Rattle.ds_policy.specs.PolicyText.{read_policy}

-- why an input is refused, if it is
abbrev pub input_reason : List PolicyPage → List ℕ → Option InputReason
input_reason pages text = result_err (read_input pages text)

-- why a policy is refused, if it is
abbrev pub policy_reason : List ℕ → Option PolicyReason
policy_reason text = result_err (read_policy text)
