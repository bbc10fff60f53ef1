-- The regions of a process's rules.
use Rattle.std.proofs.Common.{◌≡◌, ℕ, ◌==◌, ◌&&◌, ◌||◌, List, [], ◌∷◌, refl, ap, inl, inr}
use Rattle.std.specs.List.{list_any}
use Rattle.std.proofs.lemmas.Bool.{cases_Bool}
use Rattle.ds_policy.specs.declared.policy.PolicyRule.{PolicyRule}
use Rattle.ds_policy.specs.Grants.{region}
use Rattle.ds_policy.specs.PolicyParts.{regions_of}

-- a rule of the process is in this region
pub any_region : (process n : ℕ) (rules : List PolicyRule) → list_any (λ (r : PolicyRule). r.process == process && region r.address == n) rules ≡ list_any (λ b. b == n) (regions_of process rules)
any_region process n [] = refl
any_region process n (r ∷ rules) =
    elim (cases_Bool (r.process == process)) [
      | inl of ↦ rw of (ap (λ b. (region r.address == n) || b) (any_region process n rules))
      | inr other ↦ rw other (any_region process n rules)
    ]
