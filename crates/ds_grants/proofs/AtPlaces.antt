-- The entry that stands at an address goes alone where no two are at one address.
use Rattle.std.proofs.Common.{◌≡◌, ℕ, zero, suc, ◌+◌, ◌<◌, ◌≤◌, ◌==◌, not, true, false, List, [], ◌∷◌, length, filter, position, slice_index, get_or, nat_lt, Some, None, refl, sym, ap, subst, inl, inr, arith}
use Rattle.std.specs.List.{AllByRecursion, IsDistinct, position_or_len, remove}
use Rattle.std.proofs.lemmas.Bool.{cases_Bool}
use Rattle.std.proofs.lemmas.List.Sums.{position_or_len_is}
use Rattle.std.proofs.lemmas.Bool.Decides.{nat_tests}
use Rattle.std.proofs.lemmas.Map.Keys.{IsDistinct-head, IsDistinct-tail}
use Rattle.ds_policy.specs.declared.grant.Entry.{Entry}
use Rattle.ds_policy.specs.Pages.{found}
use Rattle.ds_policy.proofs.Entries.{is_at, placed, place_some, place_none}
use Rattle.ds_grants.specs.Inner.Sound.{has_same_address}
use Rattle.ds_grants.specs.Inner.Counts.{one_if_named, page_of, AreOneFewer}
use Rattle.ds_grants.proofs.FifthRegion.{same_number, itself}
use Rattle.ds_grants.proofs.HolderCounts.{holders_at}

-- the entries that aren't at an address
abbrev elsewhere : ℕ → List Entry → List Entry
elsewhere a es = filter (λ (e : Entry). not (e.address == a)) es

abbrev AreApart : ℕ → List Entry → Type 0
AreApart a es = AllByRecursion (λ (y : Entry). (a == y.address) ≡ false) es

apart_at : (a : ℕ) (es : List Entry) (i : ℕ) (d : Entry) → AreApart a es → i < length es → (a == (get_or es i d).address) ≡ false
apart_at a [] i d apart h = absurd (omega (arith, h))
apart_at a (e ∷ es) zero d apart h = apart.0
apart_at a (e ∷ es) (suc i) d apart h = apart_at a es i d apart.1 (omega (arith, h))

before_apart : (es : List Entry) (k i : ℕ) (d : Entry) → IsDistinct has_same_address es → k < i → i < length es → ((get_or es k d).address == (get_or es i d).address) ≡ false
before_apart [] k i d distinct less h = absurd (omega (arith, h))
before_apart (e ∷ es) zero zero d distinct less h = absurd (omega (arith, less))
before_apart (e ∷ es) zero (suc i) d distinct less h = apart_at e.address es i d (IsDistinct-head has_same_address e es distinct) (omega (arith, h))
before_apart (e ∷ es) (suc k) zero d distinct less h = absurd (omega (arith, less))
before_apart (e ∷ es) (suc k) (suc i) d distinct less h = before_apart es k i d (IsDistinct-tail has_same_address e es distinct) (omega (arith, less)) (omega (arith, h))

-- the entry at a place is the first at its address, as no two are at one
pub first_at_place : (es : List Entry) (a i : ℕ) (d : Entry) → IsDistinct has_same_address es → i < length es → (get_or es i d).address ≡ a → position (is_at a) es ≡ Some i
first_at_place es a i d distinct inside at =
    let first : position_or_len (is_at a) es ≡ i = position_or_len_is (is_at a) es i d (omega (arith, inside))
    (λ k before. elsewhere_before k before)
    (λ h. subst (λ (n : ℕ). (n == a) ≡ true) (sym at) (itself a)) in
    let less : nat_lt i (length es) ≡ true = grind (arith, nat_tests) in
    rw (first, less) refl
  where
    elsewhere_before : (k : ℕ) → k < i → ((get_or es k d).address == a) ≡ false
    elsewhere_before k before =
        let apart = before_apart es k i d distinct before inside in
        subst (λ (n : ℕ). ((get_or es k d).address == n) ≡ false) at apart

-- so its grant is what is found there
pub found_at_place : (es : List Entry) (a i : ℕ) (d : Entry) → IsDistinct has_same_address es → i < length es → (get_or es i d).address ≡ a → found es a ≡ Some (get_or es i d).grant
found_at_place es a i d distinct inside at = (placed es a i d.grant d (first_at_place es a i d distinct inside at)).0

step : (n : ℕ) → 1 + n ≡ suc n
step n = omega arith

all_elsewhere : (a : ℕ) (es : List Entry) → AreApart a es → elsewhere a es ≡ es
all_elsewhere a [] apart = refl
all_elsewhere a (e ∷ es) apart =
    let first = apart.0 in
    let off : (e.address == a) ≡ false = grind (arith, nat_tests) in
    rw off (ap (λ (xs : List Entry). e ∷ xs) (all_elsewhere a es apart.1))

-- those after the first at an address are apart from it
rest_apart : (e : Entry) (es : List Entry) (a : ℕ) → (e.address == a) ≡ true → IsDistinct has_same_address (e ∷ es) → AreApart a es
rest_apart e es a here distinct = subst (λ (n : ℕ). AreApart n es) (same_number e.address a here) (IsDistinct-head has_same_address e es distinct)

first_removed : (es : List Entry) (a : ℕ) → IsDistinct has_same_address es → position_or_len (is_at a) es < length es → remove es (position_or_len (is_at a) es) ≡ elsewhere a es
first_removed [] a distinct h = absurd (omega (arith, h))
first_removed (e ∷ es) a distinct h = elim (cases_Bool (e.address == a)) [
  | inl here ↦ (let rest = all_elsewhere a es (rest_apart e es a here distinct) in rw here (sym rest))
  | inr other ↦ rw (other, step) (ap (λ (xs : List Entry). e ∷ xs) (first_removed es a (IsDistinct-tail has_same_address e es distinct) (omega (arith, rw other at h))))
]

pub removed_at : (es : List Entry) (a i : ℕ) → IsDistinct has_same_address es → position (is_at a) es ≡ Some i → remove es i ≡ filter (λ (e : Entry). not (e.address == a)) es
removed_at es a i distinct at =
    let place = place_some (position_or_len (is_at a) es) (length es) i at in
    subst (λ (n : ℕ). remove es n ≡ elsewhere a es) place.0 (first_removed es a distinct (subst (λ (n : ℕ). n < length es) (sym place.0) place.1))

none_removed : (es : List Entry) (a : ℕ) → length es ≤ position_or_len (is_at a) es → elsewhere a es ≡ es
none_removed [] a h = refl
none_removed (e ∷ es) a h = elim (cases_Bool (e.address == a)) [
  | inl here ↦ absurd (omega (arith, rw here at h))
  | inr other ↦ rw other (ap (λ (xs : List Entry). e ∷ xs) (none_removed es a (omega (arith, rw other at h))))
]

-- where none is at an address, none goes
pub none_at : (es : List Entry) (a : ℕ) → position (is_at a) es ≡ None → filter (λ (e : Entry). not (e.address == a)) es ≡ es
none_at es a at = none_removed es a (place_none (position_or_len (is_at a) es) (length es) at)

-- How many entries name a page, when one goes.

none_held : (q a : ℕ) (es : List Entry) → AreApart a es → holders_at q a es ≡ 0
none_held q a [] apart = refl
none_held q a (e ∷ es) apart =
    let first = apart.0 in
    let off : (e.address == a) ≡ false = grind (arith, nat_tests) in
    rw off (let rest = none_held q a es apart.1 in omega (arith, rest))

one_held : (q a : ℕ) (es : List Entry) → IsDistinct has_same_address es → holders_at q a es ≡ one_if_named q (page_of (found es a))
one_held q a [] distinct = refl
one_held q a (e ∷ es) distinct = elim (cases_Bool (e.address == a)) [
  | inl here ↦ rw here (let rest = none_held q a es (rest_apart e es a here distinct) in omega (arith, rest))
  | inr other ↦ rw other (let rest = one_held q a es (IsDistinct-tail has_same_address e es distinct) in omega (arith, rest))
]

-- one fewer names the page of the entry that goes
pub fewer_held : (es : List Entry) (a : ℕ) (old new : List ℕ) → IsDistinct has_same_address es → AreOneFewer (page_of (found es a)) old new → (q : ℕ) → slice_index new q + holders_at q a es ≡ slice_index old q
fewer_held es a old new distinct fewer q =
    let one = one_held q a es distinct in
    let each = fewer.each q in
    omega (arith, one, each)
