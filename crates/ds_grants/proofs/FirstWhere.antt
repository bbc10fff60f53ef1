-- Rows when the entries for which a test holds are changed or go, one after the other, the first of them first.
use Rattle.std.proofs.Common.{◌≡◌, ℕ, zero, suc, take, ◌==◌, ◌∷◌, not, Bool, true, false, cond, List, [], filter, is_some, Option, Some, None, refl, sym, ap, ap₂, subst, inl, inr, arith}
use Rattle.std.specs.List.{All, AllByRecursion, IsDistinct}
use Rattle.std.proofs.lemmas.Bool.{cases_Bool}
use Rattle.std.proofs.lemmas.Bool.Decides.{nat_tests}
use Rattle.std.proofs.lemmas.List.Elements.{All-nil, All-cons, All-head, All-tail}
use Rattle.std.proofs.lemmas.Map.Keys.{IsDistinct-head, IsDistinct-tail}
use Rattle.ds_policy.specs.declared.grant.Entry.{Entry}
use Rattle.ds_policy.specs.declared.grant.EntryPlace.{EntryPlace}
use Rattle.ds_policy.specs.declared.grant.Grant.{Grant}
use Rattle.ds_policy.specs.Pages.{found, put}
use Rattle.ds_grants.specs.Inner.Sound.{IsAtPage, has_same_address}
use Rattle.ds_grants.specs.Inner.Changes.{changed_where, places_in}
use Rattle.ds_grants.proofs.FifthRegion.{itself}

-- the first of the entries for which a test holds
abbrev pub first_where : (Entry → Bool) → List Entry → Option Entry
first_where test [] = None
first_where test (e ∷ es) = cond (test e) (Some e) (first_where test es)

-- without the entry at an address
abbrev pub erased : ℕ → List Entry → List Entry
erased b es = filter (λ (e : Entry). not (e.address == b)) es

-- the entries for which a test does not hold
abbrev pub without : (Entry → Bool) → List Entry → List Entry
without test es = filter (λ (e : Entry). not (test e)) es

abbrev place : ℕ → ℕ → EntryPlace
place q b = record { process = q; address = b }

-- the entries stand at other addresses
abbrev AreApart : ℕ → List Entry → Type 0
AreApart x es = AllByRecursion (λ (y : Entry). (x == y.address) ≡ false) es

turned : (m n : ℕ) → (m == n) ≡ false → (n == m) ≡ false
turned m n is = grind (arith, nat_tests)

-- the first is the head, or the head is passed by
at_head : (test : Entry → Bool) (d e : Entry) (es : List Entry) → first_where test (e ∷ es) ≡ Some d → test e ≡ true → e ≡ d
at_head test d e es is holds = let some : Some e ≡ Some d = rw holds at is in cc

in_tail : (test : Entry → Bool) (d e : Entry) (es : List Entry) → first_where test (e ∷ es) ≡ Some d → test e ≡ false → first_where test es ≡ Some d
in_tail test d e es is fails = rw fails at is

-- the first stands there
pub first_found : (test : Entry → Bool) (d : Entry) (es : List Entry) → first_where test es ≡ Some d → is_some (found es d.address) ≡ true
first_found test d [] is = absurd cc
first_found test d (e ∷ es) is = elim (cases_Bool (test e)) [
  | inl holds ↦
      let here : (e.address == d.address) ≡ true = rw (at_head test d e es is holds) (itself d.address) in
      rw here refl
  | inr fails ↦
      let next = first_found test d es (in_tail test d e es is fails) in
      elim (cases_Bool (e.address == d.address)) [
        | inl here ↦ rw here refl
        | inr there ↦ rw there next
      ]
]

-- at a page of a user's
pub first_page : (test : Entry → Bool) (d : Entry) (es : List Entry) → All IsAtPage es → first_where test es ≡ Some d → IsAtPage d
first_page test d [] all is = absurd cc
first_page test d (e ∷ es) all is = elim (cases_Bool (test e)) [
  | inl holds ↦ subst IsAtPage (at_head test d e es is holds) (All-head IsAtPage e es all)
  | inr fails ↦ first_page test d es (All-tail IsAtPage e es all) (in_tail test d e es is fails)
]

-- who stands apart from all stands apart from the first
first_apart : (test : Entry → Bool) (d : Entry) (x : ℕ) (es : List Entry) → AreApart x es → first_where test es ≡ Some d → (x == d.address) ≡ false
first_apart test d x [] apart is = absurd cc
first_apart test d x (e ∷ es) apart is = elim (cases_Bool (test e)) [
  | inl holds ↦ subst (λ (y : Entry). (x == y.address) ≡ false) (at_head test d e es is holds) apart.0
  | inr fails ↦ first_apart test d x es apart.1 (in_tail test d e es is fails)
]

-- who stands apart stays
apart_kept : (b : ℕ) (es : List Entry) → AreApart b es → erased b es ≡ es
apart_kept b [] apart = refl
apart_kept b (e ∷ es) apart =
    let there = turned b e.address apart.0 in
    rw there (ap (λ (rest : List Entry). e ∷ rest) (apart_kept b es apart.1))

-- A row is the head and the rest, and the head may be the first or not.
module _ (test : Entry → Bool) (d e : Entry) (es : List Entry) (distinct : IsDistinct has_same_address (e ∷ es)) (is : first_where test (e ∷ es) ≡ Some d) where
  here : test e ≡ true → (e.address == d.address) ≡ true
  here holds = rw (at_head test d e es is holds) (itself d.address)

  there : test e ≡ false → (e.address == d.address) ≡ false
  there fails = first_apart test d e.address es (IsDistinct-head has_same_address e es distinct) (in_tail test d e es is fails)

  rest_kept : test e ≡ true → erased d.address es ≡ es
  rest_kept holds =
      let apart : AreApart d.address es = subst (λ (y : Entry). AreApart y.address es) (at_head test d e es is holds) (IsDistinct-head has_same_address e es distinct) in
      apart_kept d.address es apart

-- Once the first is gone, what is left to do is the same.
pub erased_others : (test : Entry → Bool) (d : Entry) (es : List Entry) → IsDistinct has_same_address es → first_where test es ≡ Some d → without test (erased d.address es) ≡ without test es
erased_others test d [] distinct is = refl
erased_others test d (e ∷ es) distinct is = elim (cases_Bool (test e)) [
  | inl holds ↦ rw (here test d e es distinct is holds, holds) (ap (without test) (rest_kept test d e es distinct is holds))
  | inr fails ↦
      rw (there test d e es distinct is fails, fails)
      (ap (λ (kept : List Entry). e ∷ kept) (erased_others test d es (IsDistinct-tail has_same_address e es distinct) (in_tail test d e es is fails)))
]

pub erased_places : (test : Entry → Bool) (d : Entry) (q : ℕ) (es : List Entry) → IsDistinct has_same_address es → first_where test es ≡ Some d → places_in test q es ≡ record { process = q; address = d.address } ∷ places_in test q (erased d.address es)
erased_places test d q [] distinct is = absurd cc
erased_places test d q (e ∷ es) distinct is = elim (cases_Bool (test e)) [
  | inl holds ↦
      let at = ap (λ (y : Entry). y.address) (at_head test d e es is holds) in
      rw (here test d e es distinct is holds, holds) (ap₂ (λ (n : ℕ) (kept : List Entry). place q n ∷ places_in test q kept) at (sym (rest_kept test d e es distinct is holds)))
  | inr fails ↦
      rw (there test d e es distinct is fails, fails) (erased_places test d q es (IsDistinct-tail has_same_address e es distinct) (in_tail test d e es is fails))
]

-- Once a grant stands in the place of the first for which the test does not hold, what is left to do is the same.
pub put_others : (test : Entry → Bool) (grant_of : Entry → Grant) (d : Entry) (es : List Entry) → test (record d { grant = grant_of d }) ≡ false → IsDistinct has_same_address es → first_where test es ≡ Some d
    → changed_where test grant_of (put es d.address (grant_of d)) ≡ changed_where test grant_of es
put_others test grant_of d [] done distinct is = absurd cc
put_others test grant_of d (e ∷ es) done distinct is = elim (cases_Bool (test e)) [
  | inl holds ↦
      let same = at_head test d e es is holds in
      rw (here test d e es distinct is holds, holds, done) (ap (λ (y : Entry). record y { grant = grant_of y } ∷ changed_where test grant_of es) (sym same))
  | inr fails ↦
      rw (there test d e es distinct is fails, fails)
      (ap (λ (kept : List Entry). e ∷ kept) (put_others test grant_of d es done (IsDistinct-tail has_same_address e es distinct) (in_tail test d e es is fails)))
]

pub put_places : (test : Entry → Bool) (g : Grant) (d : Entry) (q : ℕ) (es : List Entry) → test (record d { grant = g }) ≡ false → IsDistinct has_same_address es → first_where test es ≡ Some d
    → places_in test q es ≡ record { process = q; address = d.address } ∷ places_in test q (put es d.address g)
put_places test g d q [] done distinct is = absurd cc
put_places test g d q (e ∷ es) done distinct is = elim (cases_Bool (test e)) [
  | inl holds ↦
      let at = ap (λ (y : Entry). y.address) (at_head test d e es is holds) in
      rw (here test d e es distinct is holds, holds, done) (ap (λ (n : ℕ). place q n ∷ places_in test q es) at)
  | inr fails ↦
      rw (there test d e es distinct is fails, fails) (put_places test g d q es done (IsDistinct-tail has_same_address e es distinct) (in_tail test d e es is fails))
]

-- Where the test holds of none of the first n it still holds of none of them.

pub erased_before : (test : Entry → Bool) (d : Entry) (n : ℕ) (es : List Entry) → IsDistinct has_same_address es → first_where test es ≡ Some d
    → All (λ (e : Entry). test e ≡ false) (take n es) → All (λ (e : Entry). test e ≡ false) (take n (erased d.address es))
erased_before test d zero es distinct is before = All-nil (λ (e : Entry). test e ≡ false)
erased_before test d (suc n) [] distinct is before = absurd cc
erased_before test d (suc n) (e ∷ es) distinct is before =
    let fails = All-head (λ (x : Entry). test x ≡ false) e (take n es) before in
    let rest = erased_before test d n es (IsDistinct-tail has_same_address e es distinct) (in_tail test d e es is fails) (All-tail (λ (x : Entry). test x ≡ false) e (take n es) before) in
    rw (there test d e es distinct is fails) (All-cons (λ (x : Entry). test x ≡ false) e (take n (erased d.address es)) fails rest)

pub put_before : (test : Entry → Bool) (g : Grant) (d : Entry) (n : ℕ) (es : List Entry) → IsDistinct has_same_address es → first_where test es ≡ Some d
    → All (λ (e : Entry). test e ≡ false) (take n es) → All (λ (e : Entry). test e ≡ false) (take n (put es d.address g))
put_before test g d zero es distinct is before = All-nil (λ (e : Entry). test e ≡ false)
put_before test g d (suc n) [] distinct is before = absurd cc
put_before test g d (suc n) (e ∷ es) distinct is before =
    let fails = All-head (λ (x : Entry). test x ≡ false) e (take n es) before in
    let rest = put_before test g d n es (IsDistinct-tail has_same_address e es distinct) (in_tail test d e es is fails) (All-tail (λ (x : Entry). test x ≡ false) e (take n es) before) in
    rw (there test d e es distinct is fails) (All-cons (λ (x : Entry). test x ≡ false) e (take n (put es d.address g)) fails rest)

-- Where there is no first, nothing is left to do.
no_first : (test : Entry → Bool) (e : Entry) (es : List Entry) → first_where test (e ∷ es) ≡ None → (test e ≡ false) × (first_where test es ≡ None)
no_first test e es is = elim (cases_Bool (test e)) [
  | inl holds ↦ absurd (let some : Some e ≡ None = rw holds at is in cc)
  | inr fails ↦ (fails, rw fails at is)
]

pub none_without : (test : Entry → Bool) (es : List Entry) → first_where test es ≡ None → without test es ≡ es
none_without test [] is = refl
none_without test (e ∷ es) is = let (fails, rest) = no_first test e es is in rw fails (ap (λ (kept : List Entry). e ∷ kept) (none_without test es rest))

pub none_changed : (test : Entry → Bool) (grant_of : Entry → Grant) (es : List Entry) → first_where test es ≡ None → changed_where test grant_of es ≡ es
none_changed test grant_of [] is = refl
none_changed test grant_of (e ∷ es) is = let (fails, rest) = no_first test e es is in rw fails (ap (λ (kept : List Entry). e ∷ kept) (none_changed test grant_of es rest))

pub none_placed : (test : Entry → Bool) (q : ℕ) (es : List Entry) → first_where test es ≡ None → places_in test q es ≡ []
none_placed test q [] is = refl
none_placed test q (e ∷ es) is = let (fails, rest) = no_first test e es is in rw fails (none_placed test q es rest)
