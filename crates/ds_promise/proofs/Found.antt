-- That a run is quiet is found by computing so many half turns, if it has ended then.
use Rattle.std.proofs.Common.{◌≡◌, ℕ, zero, suc, ◌-◌, ◌<◌, Bool, true, false, refl, sym, ap, ◌∙◌, subst, arith, inl, inr}
use Rattle.std.specs.Prelude.{◌&&◌, ◌||◌, not, replicate}
use Rattle.std.proofs.lemmas.Bool.{cases_lt}
use Rattle.ds_pagemap.specs.Machine.{State}
use Rattle.ds_pagemap.specs.Run.{goes_on, go, after}
use Rattle.ds_promise.specs.Quiet.{is_quiet_half_turn, quiet_halves, IsQuiet}
use Rattle.ds_promise.proofs.Runs.{stays}

-- a run that takes one half turn more from the front
from_front : (n i : ℕ) (m : State) → after n (replicate (suc i) false) m ≡ after n (replicate i false) (go n false m)
unfolding after
from_front n zero m = refl
from_front n (suc i) m = ap (go n false) (from_front n i m)

both : (a b : Bool) → (a && b) ≡ true → (a ≡ true) × (b ≡ true)
both true b e = (refl, e)
both false b e = absurd cc

if_on : (on quiet : Bool) → (not on || quiet) ≡ true → on ≡ true → quiet ≡ true
if_on true quiet e is = e
if_on false quiet e is = absurd cc

-- each of the half turns that were computed is quiet
early : (n k : ℕ) (m : State) → quiet_halves n k m ≡ true → (i : ℕ) → i < k → goes_on n (after n (replicate i false) m) ≡ true → is_quiet_half_turn (after n (replicate i false) m) ≡ true
unfolding after
early n zero m q i within on = absurd (omega (arith, within))
early n (suc k) m q zero within on = if_on (goes_on n m) (is_quiet_half_turn m) (both (not (goes_on n m) || is_quiet_half_turn m) (quiet_halves n k (go n false m)) q).0 on
early n (suc k) m q (suc i) within on =
    let turned = from_front n i m in
    ap is_quiet_half_turn turned
    ∙ early n k (go n false m) (both (not (goes_on n m) || is_quiet_half_turn m) (quiet_halves n k (go n false m)) q).1 i (omega (arith, within)) (ap (goes_on n) (sym turned) ∙ on)

pub found : (n k : ℕ) (m : State) → quiet_halves n k m ≡ true → goes_on n (after n (replicate k false) m) ≡ false → IsQuiet n m
found n k m q over = record {
  halves = λ i on. elim (cases_lt i k) [
    | inl before ↦ early n k m q i before on
    | inr afterwards ↦ absurd (apart (goes_on n (after n (replicate i false) m)) on (ap (goes_on n) (stays n m k (i - k) over i (omega (arith, afterwards))) ∙ over))
  ];
}
  where
    apart : (b : Bool) → b ≡ true → b ≡ false → ⊥
    apart true e f = absurd cc
    apart false e f = absurd cc

and_or : (on quiet more : Bool) → (on ≡ true → quiet ≡ true) → more ≡ true → ((not on || quiet) && more) ≡ true
and_or true quiet more f e = subst (λ (b : Bool). (b && more) ≡ true) (sym (f refl)) e
and_or false quiet more f e = e

always_by : (n k : ℕ) (m : State) → ((i : ℕ) → goes_on n (after n (replicate i false) m) ≡ true → is_quiet_half_turn (after n (replicate i false) m) ≡ true) → quiet_halves n k m ≡ true
unfolding after
always_by n zero m q = refl
always_by n (suc k) m q = and_or (goes_on n m) (is_quiet_half_turn m) (quiet_halves n k (go n false m)) (q 0)
    (always_by n k (go n false m) (λ i on. ap is_quiet_half_turn (sym (from_front n i m)) ∙ q (suc i) (ap (goes_on n) (from_front n i m) ∙ on)))

pub always : (n k : ℕ) (m : State) → IsQuiet n m → quiet_halves n k m ≡ true
always n k m q = always_by n k m q.halves
