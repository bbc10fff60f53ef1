-- Processes one after the other.
use Rattle.std.proofs.Common.{◌≡◌, ◌∙◌, refl, sym, ap, ℕ, ◌+◌, List, ◌++◌, append_assoc, add-one}
use Rattle.ds_policy.specs.declared.policy.PolicyRule.{PolicyRule}
use Rattle.ds_check.specs.Limits.{limits_of_process, of_processes}

-- a process more
next_process : (rules : List PolicyRule) (n : ℕ) → of_processes rules (n + 1) ≡ of_processes rules n ++ limits_of_process rules (n + 1)
next_process rules n = rw (add-one n) refl

pub of_process_more : (rules : List PolicyRule) (n : ℕ) (start xs new : List ℕ) → xs ≡ start ++ of_processes rules n → new ≡ xs ++ limits_of_process rules (n + 1) → new ≡ start ++ of_processes rules (n + 1)
of_process_more rules n start xs new before added =
    added ∙ (ap (λ ys. ys ++ limits_of_process rules (n + 1)) before
    ∙ (append_assoc start (of_processes rules n) (limits_of_process rules (n + 1)) ∙ ap (λ ys. start ++ ys) (sym (next_process rules n))))
