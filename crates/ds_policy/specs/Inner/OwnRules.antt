-- The rules of each process.
use Rattle.std.specs.Prelude.{◌≡◌, ◌≤◌, ◌==◌, ◌-◌, ℕ, List, [], length, filter, slice_index_or}
use Rattle.ds_policy.specs.declared.policy.PolicyRule.{PolicyRule}

-- the rules of a process
abbrev pub own_rules : ℕ → List PolicyRule → List PolicyRule
own_rules p rules = filter (λ (r : PolicyRule). r.process == p) rules

-- each list has the rules of its process; that of process p is at p - 1
abbrev pub AreByProcess : List (List PolicyRule) → List PolicyRule → Type 0
AreByProcess owns rules = (p : ℕ) → 1 ≤ p → p ≤ length owns → slice_index_or owns (p - 1) [] ≡ own_rules p rules
