-- Whether there may be one more rule is told by the rules of its process.
use Rattle.std.proofs.Common.{◌≡◌, ◌∙◌, sym, ap, refl, ℕ, ◌-◌, ◌≤◌, ◌==◌, ◌||◌, true, List, [], ◌∷◌, ◌++◌, length, map, count_by, inl, inr, arith, set, get_or, append-nil}
use Rattle.std.specs.List.{list_any}
use Rattle.std.proofs.lemmas.Bool.{cases_Bool}
use Rattle.std.proofs.lemmas.Bool.Decides.{nat_tests}
use Rattle.std.proofs.lemmas.List.Elements.{filter-append}
use Rattle.std.proofs.lemmas.List.{get_or-set_same, get_or-set_other, length-set}
use Rattle.std.proofs.lemmas.List.Sums.{length-filter}
use Rattle.ds_policy.specs.Grants.{region}
use Rattle.ds_policy.specs.declared.policy.PolicyRule.{PolicyRule}
use Rattle.ds_policy.specs.PolicyParts.{has_same_place, regions_of, beside}
use Rattle.ds_policy.specs.Inner.OwnRules.{own_rules, AreByProcess}

any_own : (r : PolicyRule) (rules : List PolicyRule) → list_any (λ (s : PolicyRule). has_same_place s r) (own_rules r.process rules) ≡ list_any (λ (s : PolicyRule). has_same_place s r) rules
any_own r [] = refl
any_own r (s ∷ rules) = elim (cases_Bool (s.process == r.process)) [
  | inl of ↦ rw (of, of) (ap (λ b. (s.address == r.address) || b) (any_own r rules))
  | inr other ↦ rw other (any_own r rules)
]

own_twice : (p : ℕ) (rules : List PolicyRule) → own_rules p (own_rules p rules) ≡ own_rules p rules
own_twice p [] = refl
own_twice p (s ∷ rules) = elim (cases_Bool (s.process == p)) [
  | inl of ↦ rw (of, of) (ap (λ xs. s ∷ xs) (own_twice p rules))
  | inr other ↦ rw other (own_twice p rules)
]

count_own : (p : ℕ) (rules : List PolicyRule) → count_by (λ (s : PolicyRule). s.process == p) (own_rules p rules) ≡ count_by (λ (s : PolicyRule). s.process == p) rules
count_own p rules =
    sym (length-filter (λ (s : PolicyRule). s.process == p) (own_rules p rules))
    ∙ ap length (own_twice p rules)
    ∙ length-filter (λ (s : PolicyRule). s.process == p) rules

regions_own : (p : ℕ) (rules : List PolicyRule) → regions_of p (own_rules p rules) ≡ regions_of p rules
regions_own p rules = ap (map (λ (r : PolicyRule). region r.address)) (own_twice p rules)

-- what stands beside a rule of its process is told by those rules alone
pub beside_own : (before : List PolicyRule) (r : PolicyRule) → beside (own_rules r.process before) r ≡ beside before r
unfolding beside
beside_own before r = rw (any_own r before, count_own r.process before, regions_own r.process before)

-- one more rule, in the list of its process
pub by_process_more : (owns : List (List PolicyRule)) (rules : List PolicyRule) (r : PolicyRule) → 1 ≤ r.process → r.process ≤ length owns → AreByProcess owns rules
    → AreByProcess (set owns (r.process - 1) (get_or owns (r.process - 1) [] ++ r ∷ [])) (rules ++ r ∷ [])
by_process_more owns rules r low high by = λ p p1 p2.
    let within : p ≤ length owns = omega (arith, p2, length-set owns (r.process - 1) (get_or owns (r.process - 1) [] ++ r ∷ [])) in
    let more = filter-append (λ (s : PolicyRule). s.process == p) rules (r ∷ []) in
    elim (cases_Bool (r.process == p)) [
      | inl same ↦
          let is : p ≡ r.process = grind (arith, nat_tests) in
          rw is (get_or-set_same owns (r.process - 1) (get_or owns (r.process - 1) [] ++ r ∷ []) [] (omega (arith, low, high))
          ∙ ap (λ xs. xs ++ r ∷ []) (by r.process low high)
          ∙ sym (filter-append (λ (s : PolicyRule). s.process == r.process) rules (r ∷ []) ∙ ap (λ xs. own_rules r.process rules ++ xs) (alone r)))
      | inr other ↦
          get_or-set_other owns (r.process - 1) (p - 1) _ [] (λ e. grind (arith, nat_tests))
          ∙ by p p1 within
          ∙ sym (more ∙ (rw other (append-nil (own_rules p rules))))
    ]
  where
    alone : (r : PolicyRule) → own_rules r.process (r ∷ []) ≡ r ∷ []
    alone r = let same : (r.process == r.process) ≡ true = grind (arith, nat_tests) in rw same refl
