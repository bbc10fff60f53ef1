-- One rule more in the table that a policy begins with.
use Rattle.std.proofs.Common.{◌≡◌, ◌≢◌, sym, subst, ap, ℕ, ◌+◌, ◌-◌, ◌<◌, ◌≤◌, ◌==◌, true, cond, List, [], ◌∷◌, length, ◌++◌, append-nil, take, drop, get_or, arith, inl, inr, length-set, get_or-set_same, get_or-set_other, count_by, replicate}
use Rattle.std.proofs.lemmas.Bool.{cases_Bool, cases_lt}
use Rattle.std.proofs.lemmas.Bool.Decides.{nat_tests}
use Rattle.std.proofs.lemmas.List.{drop_all, take_all, drop_more, get_or-replicate, get_or_past, length-replicate}
use Rattle.std.proofs.lemmas.List.Sums.{sum_by-cons}
use Rattle.std.proofs.lemmas.List.Elements.{All-head, All-tail, All-weaker}
use Rattle.ds_policy.specs.declared.grant.Entry.{Entry}
use Rattle.ds_policy.specs.declared.grant.Grant.{Grant}
use Rattle.ds_policy.specs.declared.policy.PolicyRule.{PolicyRule}
use Rattle.ds_policy.specs.Pages.{Table, entries_of, put}
use Rattle.std.specs.List.{All}
use Rattle.ds_policy.specs.PolicyFacts.{IsGoodRule, HasFewRules}
use Rattle.ds_policy.specs.FirstTable.{granted_by, with_rule, with_rules}
use Rattle.ds_policy.specs.Inner.FirstTable.{HasRoom, AreWithin}

-- an entry put in is one more at most
pub length_put : (es : List Entry) (a : ℕ) (g : Grant) → length (put es a g) ≤ length es + 1
length_put [] a g = omega arith
length_put (e ∷ es) a g = elim (cases_Bool (e.address == a)) [
  | inl here ↦ rw here (omega arith)
  | inr other ↦ let ih = length_put es a g in rw other (omega (arith, ih))
]

count_cons : (q : ℕ) (r : PolicyRule) (rules : List PolicyRule) → count_by (λ (r : PolicyRule). r.process == q) (r ∷ rules) ≡ cond (r.process == q) 1 0 + count_by (λ (r : PolicyRule). r.process == q) rules
count_cons q r rules = sum_by-cons (λ (r : PolicyRule). cond (r.process == q) 1 0) r rules

pub room_step : (t : Table) (n : ℕ) (r : PolicyRule) (rules : List PolicyRule) → 0 < r.process → r.process ≤ length t → HasRoom t (r ∷ rules) → HasRoom (with_rule t n r) rules
room_step t n r rules low high room q pos =
    let before = rw (count_cons q r rules) at (room q pos) in
    let row = put (entries_of t r.process) r.address (granted_by n r) in
    elim (cases_Bool (r.process == q)) [
      | inl is ↦
          let same : q ≡ r.process = grind (arith, nat_tests) in
          let at : r.process - 1 < length t = omega arith in
          let new : entries_of (with_rule t n r) q ≡ row = rw same (get_or-set_same t (r.process - 1) row [] at) in
          let bound = length_put (entries_of t r.process) r.address (granted_by n r) in
          let here = rw is at before in
          let held : length (entries_of t q) ≡ length (entries_of t r.process) = ap (λ p. length (entries_of t p)) same in
          rw new (omega (arith, bound, here, held))
      | inr other ↦
          let apart : q - 1 ≢ r.process - 1 = grind (arith, nat_tests) in
          let new : entries_of (with_rule t n r) q ≡ entries_of t q = get_or-set_other t (r.process - 1) (q - 1) row [] apart in
          let here = rw other at before in
          rw new (omega (arith, here))
    ]

abbrev pub IsAbout : ℕ → PolicyRule → Type 0
IsAbout n r = (1 ≤ r.process) × (r.process ≤ n)

pub record Next (t : Table) (n : ℕ) (r : PolicyRule) (rules : List PolicyRule) : Type 0 where
  pub low : 0 < r.process
  pub high : r.process ≤ length t
  pub free : length (entries_of t r.process) < 256
  pub room : HasRoom (with_rule t n r) rules
  pub within : AreWithin (length (with_rule t n r)) rules

next_cons : (t : Table) (n : ℕ) (r : PolicyRule) (rules : List PolicyRule) → HasRoom t (r ∷ rules) → AreWithin (length t) (r ∷ rules) → Next t n r rules
next_cons t n r rules room within =
    let itself : (r.process == r.process) ≡ true = grind (arith, nat_tests) in
    let first = All-head (IsAbout (length t)) r rules within in
    let here = rw (count_cons r.process r rules, itself) at (room r.process first.0) in
    record {
      low = first.0;
      high = first.1;
      free = omega (arith, here);
      room = room_step t n r rules first.0 first.1 room;
      within = subst (λ n. AreWithin n rules) (sym (length-set t (r.process - 1) (put (entries_of t r.process) r.address (granted_by n r)))) (All-tail (IsAbout (length t)) r rules within);
    }

-- what the rule at a place needs and leaves
pub next_at : (t : Table) (n : ℕ) (rules : List PolicyRule) (i : ℕ) (d : PolicyRule) → i < length rules → HasRoom t (drop i rules) → AreWithin (length t) (drop i rules) → Next t n (get_or rules i d) (drop (i + 1) rules)
next_at t n rules i d h room within =
    next_cons t n (get_or rules i d) (drop (i + 1) rules) (subst (HasRoom t) (drop_more rules i d h) room) (subst (AreWithin (length t)) (drop_more rules i d h) within)

pub rules_step : (t : Table) (n : ℕ) (rules : List PolicyRule) (i : ℕ) (d : PolicyRule) → i < length rules → with_rules t n (drop i rules) ≡ with_rules (with_rule t n (get_or rules i d)) (n + 1) (drop (i + 1) rules)
rules_step t n rules i d h = rw (drop_more rules i d h)

pub empty_row : (n q : ℕ) → entries_of (replicate n []) q ≡ []
empty_row n q = elim (cases_lt (q - 1) n) [
  | inl inside ↦ get_or-replicate n (q - 1) [] [] inside
  | inr past ↦ get_or_past (replicate n []) (q - 1) [] (omega (arith, length-replicate {A = List Entry} n []))
]

-- rows without entries have room for few rules
pub room_in_empty : (n : ℕ) (rules : List PolicyRule) → HasFewRules rules → HasRoom (replicate n []) rules
room_in_empty n rules few q pos = let here = few q in rw (empty_row n q) (omega (arith, here))

pub good_within : (n m : ℕ) (rules : List PolicyRule) → All (IsGoodRule n m) rules → AreWithin n rules
good_within n m rules good = All-weaker (IsGoodRule n m) (IsAbout n) (λ r g. g.process) rules good

-- a list written whole over one of its length
pub whole : {A : Type 0} (n : ℕ) (xs ys : List A) → n ≡ length xs → length xs ≡ length ys → take n (xs ++ drop (length xs) ys) ≡ xs
whole n xs ys all same = rw (drop_all (length xs) ys (omega arith), append-nil xs) (take_all n xs (omega arith))
