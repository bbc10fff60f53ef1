-- Numbers stay apart when one is handed out or given up.
use Rattle.std.proofs.Common.{◌≡◌, ◌≢◌, ◌⊎◌, ℕ, Bool, false, cond, ◌<◌, ◌≤◌, List, length, length-set, inl, inr, sym, ap, subst, ◌∙◌, arith, refl}
use Rattle.std.specs.Prelude.{slice_index, slice_set, replicate, nat_lt, ◌==◌, if◌then◌else◌, Option, Some, None}
use Rattle.std.proofs.lemmas.Bool.{cases_eq, cases_Bool}
use Rattle.std.proofs.lemmas.Bool.Decides.{nat_tests}
use Rattle.std.proofs.lemmas.Grind.{common_steps}
use Rattle.std.proofs.lemmas.List.{get_or-set_same, get_or-set_other, length-replicate, get_or-replicate, get_or_past, set-get_or}
use Rattle.ds_asid.specs.Spaces.{Spaces, AreApart, at_start, space_number, space_taken}
use Rattle.ds_asid.specs.Inner.Spaces.{number_held, given_up}

-- no place of zeros has a number
none_of : (n p : ℕ) → slice_index (replicate n 0) p ≡ 0
none_of n p = elim (cases_Bool (nat_lt p n)) [
  | inl within ↦ get_or-replicate {A = ℕ} n p 0 0 (let below : p < n = grind (arith, nat_tests) in below)
  | inr past ↦
      let size = length-replicate {A = ℕ} n 0 in
      let above : n ≤ p = grind (arith, nat_tests) in
      get_or_past (replicate n 0) p 0 (omega arith)
]

pub none_at_start : (p : ℕ) → space_number at_start p ≡ 0
none_at_start p = none_of 101 p

pub start_apart : AreApart at_start
start_apart = record {
  places = refl;
  low = omega arith;
  high = omega arith;
  used = λ p. let none = none_at_start p in omega arith;
  apart = λ p q some same. let none = none_at_start p in absurd (omega arith);
}

-- who takes a number has that, and each other keeps its own
pub taken_there : (s : Spaces) (p : ℕ) → AreApart s → p < 101 → space_number (space_taken s p) p ≡ s.next
taken_there s p k there = let size = k.places in get_or-set_same s.numbers p s.next 0 (omega arith)

pub taken_elsewhere : (s : Spaces) (p q : ℕ) → q ≢ p → space_number (space_taken s p) q ≡ space_number s q
taken_elsewhere s p q other = get_or-set_other s.numbers p q s.next 0 other

pub taken_apart : (s : Spaces) (p : ℕ) → AreApart s → p < 101 → s.next < 64 → AreApart (space_taken s p)
taken_apart s p k there free = record {
  places = length-set s.numbers p s.next ∙ k.places;
  low = omega arith;
  high = omega arith;
  used = λ q. elim (cases_eq q p) [
    | inl same ↦ let is : space_number (space_taken s p) q ≡ s.next = rw same (taken_there s p k there) in omega arith
    | inr other ↦ let is : space_number (space_taken s p) q ≡ space_number s q = taken_elsewhere s p q other in let old = k.used q in omega arith
  ];
  apart = λ q r some same. elim (cases_eq q p) [
    | inl first ↦ elim (cases_eq r p) [
      | inl second ↦ first ∙ sym second
      | inr other ↦
          let new : space_number (space_taken s p) q ≡ s.next = rw first (taken_there s p k there) in
          let old : space_number (space_taken s p) r ≡ space_number s r = taken_elsewhere s p r other in
          let low = k.used r in
          absurd (omega arith)
    ]
    | inr other ↦ elim (cases_eq r p) [
      | inl second ↦
          let new : space_number (space_taken s p) r ≡ s.next = rw second (taken_there s p k there) in
          let old : space_number (space_taken s p) q ≡ space_number s q = taken_elsewhere s p q other in
          let low = k.used q in
          absurd (omega arith)
      | inr another ↦ k.apart q r (subst (λ n. 0 < n) (taken_elsewhere s p q other) some) (sym (taken_elsewhere s p q other) ∙ (same ∙ taken_elsewhere s p r another))
    ]
  ];
}

-- who gave a number up has none, and each other keeps its own
pub gone_there : (s : Spaces) (p : ℕ) → space_number (given_up s p) p ≡ 0
gone_there s p = zero_there s.numbers p
  where
    zero_there : (xs : List ℕ) (p : ℕ) → slice_index (slice_set xs p 0) p ≡ 0
    zero_there xs p = elim (cases_Bool (nat_lt p (length xs))) [
      | inl within ↦ get_or-set_same xs p 0 0 (let below : p < length xs = grind (arith, nat_tests) in below)
      | inr past ↦ let above : length xs ≤ p = grind (arith, nat_tests) in grind (arith, common_steps)
    ]

pub others_stay : (s : Spaces) (p q : ℕ) → q ≢ p → space_number (given_up s p) q ≡ space_number s q
others_stay s p q other = get_or-set_other s.numbers p q 0 0 other

cleared : (s : Spaces) (p q : ℕ) → (space_number (given_up s p) q ≡ 0) ⊎ (space_number (given_up s p) q ≡ space_number s q)
cleared s p q = elim (cases_eq q p) [
  | inl same ↦ inl (rw same (gone_there s p))
  | inr other ↦ inr (others_stay s p q other)
]

kept : (s : Spaces) (p q : ℕ) → 0 < space_number (given_up s p) q → space_number (given_up s p) q ≡ space_number s q
kept s p q some = elim (cleared s p q) [ inl none ↦ absurd (omega arith) | inr same ↦ same ]

pub given_up_apart : (s : Spaces) (p : ℕ) → AreApart s → AreApart (given_up s p)
given_up_apart s p k = record {
  places = length-set s.numbers p 0 ∙ k.places;
  low = k.low;
  high = k.high;
  used = λ q. let old = k.used q in let low = k.low in elim (cleared s p q) [ inl none ↦ omega arith | inr same ↦ omega arith ];
  apart = λ q r some same.
      let first = kept s p q some in
      let second = kept s p r (subst (λ n. 0 < n) same some) in
      k.apart q r (subst (λ n. 0 < n) first some) (sym first ∙ (same ∙ second));
}

-- whose number is 0 has none, and every other one is some
pub none_held : (s : Spaces) (p : ℕ) → number_held s p ≡ None → space_number s p ≡ 0
none_held s p none = elim (cases_Bool (space_number s p == 0)) [
  | inl zero_there ↦ let is : space_number s p ≡ 0 = grind (arith, nat_tests) in is
  | inr other ↦ absurd (none_some (space_number s p) (sym none ∙ ap (λ (b : Bool). cond b None (Some (space_number s p))) other))
]
  where
    none_some : (n : ℕ) → ◌≡◌ {A = Option ℕ} None (Some n) → ⊥
    none_some n e = absurd cc

-- who has one has that
pub some_held : (s : Spaces) (p n : ℕ) → number_held s p ≡ Some n → space_number s p ≡ n
some_held s p n held = elim (cases_Bool (space_number s p == 0)) [
  | inl zero_there ↦ absurd (none_some n (sym (ap (λ (b : Bool). cond b None (Some (space_number s p))) zero_there) ∙ held))
  | inr other ↦ (let same : Some (space_number s p) ≡ Some n = sym (ap (λ (b : Bool). cond b None (Some (space_number s p))) other) ∙ held in cc)
]
  where
    none_some : (n : ℕ) → ◌≡◌ {A = Option ℕ} None (Some n) → ⊥
    none_some n e = absurd cc

-- and it is none that no process has
pub held_some : (s : Spaces) (p n : ℕ) → number_held s p ≡ Some n → 0 < n
held_some s p n held = elim (cases_Bool (space_number s p == 0)) [
  | inl zero_there ↦ absurd (none_some n (sym (ap (λ (b : Bool). cond b None (Some (space_number s p))) zero_there) ∙ held))
  | inr other ↦ (
      let is = some_held s p n held in
      let some : (n == 0) ≡ false = subst (λ (m : ℕ). (m == 0) ≡ false) is other in
      grind (arith, nat_tests)
      )
]
  where
    none_some : (n : ℕ) → ◌≡◌ {A = Option ℕ} None (Some n) → ⊥
    none_some n e = absurd cc

-- who has none gives up nothing
pub given_up_none : (s : Spaces) (p : ℕ) → number_held s p ≡ None → given_up s p ≡ s
given_up_none s p none =
    let zero_there : slice_index s.numbers p ≡ 0 = none_held s p none in
    ap (λ l. record s { numbers = l }) (sym (ap (λ n. slice_set s.numbers p n) zero_there) ∙ set-get_or s.numbers p 0)

-- who has one has a place
pub held_within : (s : Spaces) (p n : ℕ) → AreApart s → number_held s p ≡ Some n → p < 101
held_within s p n k held = elim (cases_Bool (nat_lt p 101)) [
  | inl within ↦ let below : p < 101 = grind (arith, nat_tests) in below
  | inr past ↦
      let above : 101 ≤ p = grind (arith, nat_tests) in
      let size = k.places in
      let none : space_number s p ≡ 0 = get_or_past s.numbers p 0 (omega arith) in
      absurd (some_number n (sym (ap (λ (m : ℕ). if m == 0 then None else Some m) none) ∙ held))
]
  where
    some_number : (n : ℕ) → ◌≡◌ {A = Option ℕ} None (Some n) → ⊥
    some_number n e = absurd cc
