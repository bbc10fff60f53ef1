-- The entry at an address, by the place where it is.
use Rattle.std.proofs.Common.{◌≡◌, ap, sym, refl, ℕ, suc, ◌+◌, ◌<◌, ◌≤◌, Bool, ◌==◌, cond, nat_lt, List, [], ◌∷◌, ◌++◌, length, get_or, set, position, Option, Some, None, inl, inr, arith, append-nil, length-set}
use Rattle.std.proofs.lemmas.List.{drop_all, take_all}
use Rattle.std.specs.List.{refill, position_or_len}
use Rattle.std.specs.Prelude.{IsNone, MatchOption}
use Rattle.std.proofs.lemmas.Bool.{cases_Bool}
use Rattle.std.proofs.lemmas.Bool.Decides.{nat_tests}
use Rattle.ds_policy.specs.declared.grant.Entry.{Entry}
use Rattle.ds_policy.specs.declared.grant.Grant.{Grant}
use Rattle.ds_policy.specs.Pages.{found, put}

abbrev pub is_at : ℕ → Entry → Bool
is_at a e = e.address == a

abbrev pub entry : ℕ → Grant → Entry
entry a g = record { address = a; grant = g }

-- what the place says
pub place_some : (n m i : ℕ) → cond {A = Option ℕ} (nat_lt n m) (Some n) None ≡ Some i → (n ≡ i) × (i < m)
place_some n m i h = elim (cases_Bool (nat_lt n m)) [
  | inl less ↦ let same : n ≡ i = cc in (same, grind (arith, nat_tests))
  | inr more ↦ let none : None ≡ Some i = rw more at h in absurd (cc)
]

pub place_none : (n m : ℕ) → cond {A = Option ℕ} (nat_lt n m) (Some n) None ≡ None → m ≤ n
place_none n m h = elim (cases_Bool (nat_lt n m)) [
  | inl less ↦ let none : Some n ≡ None = rw less at h in absurd (cc)
  | inr more ↦ grind (arith, nat_tests)
]

step : (n : ℕ) → 1 + n ≡ suc n
step n = omega arith

at_first : (es : List Entry) (a : ℕ) (g : Grant) (d : Entry) → position_or_len (is_at a) es < length es → (found es a ≡ Some (get_or es (position_or_len (is_at a) es) d).grant) × (put es a g ≡ set es (position_or_len (is_at a) es) (entry a g))
at_first [] a g d h = absurd (omega arith)
at_first (e ∷ es) a g d h = elim (cases_Bool (e.address == a)) [
  | inl here ↦ (rw here, rw here)
  | inr other ↦
      let ih = at_first es a g d (omega (arith, rw other at h)) in
      (rw (other, step) ih.0, rw (other, step) (ap (λ xs. e ∷ xs) ih.1))
]

at_none : (es : List Entry) (a : ℕ) (g : Grant) → length es ≤ position_or_len (is_at a) es → (found es a ≡ None) × (put es a g ≡ es ++ entry a g ∷ [])
at_none [] a g h = (refl, refl)
at_none (e ∷ es) a g h = elim (cases_Bool (e.address == a)) [
  | inl here ↦ absurd (omega (arith, rw here at h))
  | inr other ↦
      let ih = at_none es a g (omega (arith, rw other at h)) in
      (rw other ih.0, rw other (ap (λ xs. e ∷ xs) ih.1))
]

pub placed : (es : List Entry) (a i : ℕ) (g : Grant) (d : Entry) → position (is_at a) es ≡ Some i → (found es a ≡ Some (get_or es i d).grant) × (put es a g ≡ set es i (entry a g)) × (i < length es)
placed es a i g d h =
    let two = place_some (position_or_len (is_at a) es) (length es) i h in
    let facts = at_first es a g d (rw (two.0) two.1) in
    let first = rw two.0 at facts in
    (first.0, first.1, two.1)

pub unplaced : (es : List Entry) (a : ℕ) (g : Grant) → position (is_at a) es ≡ None → (found es a ≡ None) × (put es a g ≡ es ++ entry a g ∷ [])
unplaced es a g h = at_none es a g (place_none (position_or_len (is_at a) es) (length es) h)

-- an entry is put at the end where none is found
pub put_new : (es : List Entry) (a : ℕ) (g : Grant) → IsNone (found es a) → put es a g ≡ es ++ entry a g ∷ []
put_new [] a g none = refl
put_new (e ∷ es) a g none = elim (cases_Bool (e.address == a)) [
  | inl here ↦ absurd (let some : IsNone (Some e.grant) = rw here at none in cc)
  | inr other ↦ rw other (ap (λ xs. e ∷ xs) (put_new es a g (rw other at none)))
]

-- where the entry at an address stands
pub found_place : (es : List Entry) (a : ℕ) (d : Entry) (o : Option ℕ) → length es ≤ 256 → o ≡ position (is_at a) es → MatchOption o (found es a ≡ None) (λ i. (found es a ≡ Some (get_or es i d).grant) × (i < length es) × (i < 256))
found_place es a d None few h = (unplaced es a d.grant (sym h)).0
found_place es a d (Some i) few h =
    let at = placed es a i d.grant d (sym h) in
    let inside : i < length es = at.2 in
    (at.0, inside, omega arith)

pub refill_set : {A : Type 0} (xs : List A) (i : ℕ) (x : A) → refill (length xs) xs (set xs i x) ≡ set xs i x
refill_set xs i x = rw (length-set xs i x, drop_all (length xs) xs (omega arith), append-nil (set xs i x)) (take_all (length xs) (set xs i x) (omega (arith, length-set xs i x)))
