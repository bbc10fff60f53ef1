-- How many half turns a run takes.
use Rattle.std.proofs.Common.{◌≡◌, ℕ, suc, ◌+◌, ◌-◌, ◌*◌, ◌<◌, ◌≤◌, List, [], ◌∷◌, Bool, true, false, cond, length, refl, sym, ap, ◌∙◌, subst, inl, inr, arith}
use Rattle.std.proofs.lemmas.Bool.{cases_Bool}
use Rattle.std.specs.Prelude.{is_some, if◌then◌else◌, None}
use Rattle.ds_pagemap.specs.Machine.{State, touched}
use Rattle.ds_pagemap.specs.Unit.{unit}
use Rattle.ds_pagemap.specs.Boundary.{boundary}
use Rattle.ds_pagemap.specs.Run.{half_turn, goes_on, go, after, Reaches, ReachesInTime}
use Rattle.ds_pagemap.specs.Laws.{IsOneOrTwoLater}
use Rattle.ds_pagemap.proofs.Touches.{touched-time}
use Rattle.ds_pagemap.proofs.Units.{unit_time}
use Rattle.ds_pagemap.proofs.Boundaries.{boundary_time, boundary_owed}
use Rattle.ds_pagemap.proofs.Growth.{has_time}

one_if : Bool → ℕ
one_if b = if b then 1 else 0

-- the most half turns that are left of a run for n
left : ℕ → State → ℕ
left n m = 2 * (n - m.time) + (if is_some m.owed then 1 else 0)

at_most_one : (b : Bool) → (if b then 1 else 0) ≤ 1
at_most_one true = omega arith
at_most_one false = omega arith

later : (n a b : ℕ) → a < n → IsOneOrTwoLater a b → (c : ℕ) → c ≤ 1 → 2 * (n - b) + c + 1 ≤ 2 * (n - a)
later n a b early (inl one) c few = omega arith
later n a b early (inr two) c few = omega arith

-- half a turn brings a run nearer to its end
half_nearer : (n : ℕ) (touch : Bool) (m : State) → goes_on n m ≡ true → left n (half_turn touch m) + 1 ≤ left n m
unfolding half_turn left
half_nearer n touch m on = elim (cases_Bool (is_some m.owed)) [
  | inl owed ↦
      let t = touched touch m in
      let time : (boundary t).time ≡ m.time = boundary_time t ∙ touched-time touch m in
      let none : is_some (boundary t).owed ≡ false = ap is_some (boundary_owed t) in
      rw (owed, none, time) (omega arith)
  | inr free ↦
      let t = touched touch m in
      let goes : IsOneOrTwoLater m.time (unit t).time = subst (λ (time : ℕ). IsOneOrTwoLater time (unit t).time) (touched-time touch m) (unit_time t) in
      let before = has_time (is_some m.owed) n m free on in
      let near = later n m.time (unit t).time before goes (if is_some (unit t).owed then 1 else 0) (at_most_one (is_some (unit t).owed)) in
      rw free (omega (arith, near))
]

-- what is left of the way, with the half turns of a run that goes no half turn without need
record Spare (n : ℕ) (m : State) (choices : List Bool) : Type 0 where
  spared : List Bool
  same : after n choices m ≡ after n spared m
  few : length spared + left n (after n spared m) ≤ left n m

spare : (n : ℕ) (m : State) (choices : List Bool) → Spare n m choices
unfolding after
spare n m [] = record { spared = []; same = refl; few = omega arith }
spare n m (touch ∷ earlier) =
    let s = spare n m earlier in
    let t = after n s.spared m in
    let step : go n touch (after n earlier m) ≡ go n touch t = ap (go n touch) s.same in
    elim (cases_Bool (goes_on n t)) [
      | inl on ↦
          let goes : go n touch t ≡ half_turn touch t = ap (λ b. cond b (half_turn touch t) t) on in
          let near = half_nearer n touch t on in
          record {
            spared = touch ∷ s.spared;
            same = step;
            few = subst (λ (u : State). suc (length s.spared) + left n u ≤ left n m) (sym goes) (omega (arith, near, s.few));
          }
      | inr over ↦
          let goes : go n touch t ≡ t = ap (λ b. cond b (half_turn touch t) t) over in
          record { spared = s.spared; same = step ∙ goes; few = s.few }
    ]

pub reaches_in_time : (n : ℕ) (m t : State) → Reaches n m t → ReachesInTime n m t
unfolding left
reaches_in_time n m t r =
    let s = spare n m r.choices in
    record {
      reached = record { choices = s.spared; early = r.early; comes_to = r.comes_to ∙ ap (touched r.early) s.same };
      few = omega (arith, s.few);
    }
