-- Texts of processes, a process at a time.
use Rattle.std.proofs.Common.{◌≡◌, ℕ, zero, suc, ◌+◌, ◌<◌, ◌++◌, List, [], ◌∷◌, drop, length, refl, ap, ◌∙◌, arith}
use Rattle.ds_policy.specs.declared.policy.PolicyProcess.{PolicyProcess}
use Rattle.ds_policy.specs.Pages.{Table}
use Rattle.ds_policy.specs.Value.{InputValue}
use Rattle.ds_ties.specs.Texts.{process_text, process_texts}

-- of those that are left, the first is told before the others
pub texts_step : (table : Table) (events : InputValue) (ps : List PolicyProcess) (i n : ℕ) → i < length ps
    → process_texts table events n (drop i ps) ≡ process_text table events n ++ process_texts table events (n + 1) (drop (i + 1) ps)
texts_step table events [] i n h = absurd (omega (arith, h))
texts_step table events (p ∷ ps) zero n h = refl
texts_step table events (p ∷ ps) (suc i) n h = texts_step table events ps i n (omega (arith, h)) ∙ ap (λ (k : ℕ). process_text table events n ++ process_texts table events (n + 1) (drop k (p ∷ ps))) (next i)
  where
    next : (i : ℕ) → suc (i + 1) ≡ suc i + 1
    next i = omega arith
