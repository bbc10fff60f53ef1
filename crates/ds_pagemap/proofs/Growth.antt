-- How far the time and the log of a run come.
use Rattle.std.proofs.Common.{◌≡◌, ℕ, ◌+◌, ◌<◌, ◌≤◌, nat_lt, not, ◌&&◌, ◌||◌, List, [], ◌∷◌, Bool, true, false, cond, refl, sym, ap, ◌∙◌, subst, inl, inr, arith, ltb-true}
use Rattle.std.proofs.lemmas.Bool.{cases_Bool}
use Rattle.std.specs.Prelude.{is_some}
use Rattle.ds_pagemap.specs.Machine.{State, touched}
use Rattle.ds_pagemap.specs.Unit.{unit}
use Rattle.ds_pagemap.specs.Run.{is_over, half_turn, goes_on, go, after, Reaches}
use Rattle.ds_pagemap.specs.Laws.{Extends, IsOneOrTwoLater}
use Rattle.ds_pagemap.proofs.Lists.{extends_itself, extends_again, extends_by_a_line}
use Rattle.ds_pagemap.proofs.Touches.{touched-time, touched-log}
use Rattle.ds_pagemap.proofs.Units.{unit_time, unit_log}
use Rattle.ds_pagemap.proofs.Boundaries.{boundary_time, boundary_log}

at_most_two : (n a b : ℕ) → a < n → IsOneOrTwoLater a b → b ≤ n + 1
at_most_two n a b early (inl one) = omega arith
at_most_two n a b early (inr two) = omega arith

-- a run that goes on where no boundary is owed has time left
pub has_time : (owed : Bool) (n : ℕ) (t : State) → owed ≡ false → (owed || (nat_lt t.time n && not (is_over t))) ≡ true → t.time < n
has_time true n t is on = absurd (false_is_not_true (sym is))
  where
    false_is_not_true : false ≡ true → ⊥
    false_is_not_true e = cc
has_time false n t is on = ltb-true t.time n (front (nat_lt t.time n) _ on)
  where
    front : (a b : Bool) → (a && b) ≡ true → a ≡ true
    front true b e = refl
    front false b e = e

half_time : (n : ℕ) (touch : Bool) (t : State) → goes_on n t ≡ true → t.time ≤ n + 1 → (half_turn touch t).time ≤ n + 1
unfolding half_turn
half_time n touch t on within = elim (cases_Bool (is_some t.owed)) [
  | inl owed ↦ rw owed (omega (arith, boundary_time (touched touch t), touched-time touch t))
  | inr none ↦ rw none (at_most_two n t.time (unit (touched touch t)).time (has_time (is_some t.owed) n t none on)
      (subst (λ time. IsOneOrTwoLater time (unit (touched touch t)).time) (touched-time touch t) (unit_time (touched touch t))))
]

half_log : (touch : Bool) (t : State) → Extends t.log (half_turn touch t).log
unfolding half_turn
half_log touch t = subst (λ log. Extends log (half_turn touch t).log) (touched-log touch t) (elim (cases_Bool (is_some t.owed)) [
  | inl owed ↦ rw owed (boundary_log (touched touch t))
  | inr none ↦ rw none (extends_by_a_line (touched touch t).log (unit (touched touch t)).log (unit_log (touched touch t)))
])

go_time : (n : ℕ) (touch : Bool) (t : State) → t.time ≤ n + 1 → (go n touch t).time ≤ n + 1
go_time n touch t within = elim (cases_Bool (goes_on n t)) [
  | inl on ↦ subst (λ b. (cond b (half_turn touch t) t).time ≤ n + 1) (sym on) (half_time n touch t on within)
  | inr over ↦ subst (λ b. (cond b (half_turn touch t) t).time ≤ n + 1) (sym over) within
]

go_log : (n : ℕ) (touch : Bool) (t : State) → Extends t.log (go n touch t).log
go_log n touch t = elim (cases_Bool (goes_on n t)) [
  | inl on ↦ subst (λ b. Extends t.log (cond b (half_turn touch t) t).log) (sym on) (half_log touch t)
  | inr over ↦ subst (λ b. Extends t.log (cond b (half_turn touch t) t).log) (sym over) (extends_itself t.log)
]

after_time : (n : ℕ) (choices : List Bool) (m : State) → m.time ≤ n + 1 → (after n choices m).time ≤ n + 1
unfolding after
after_time n [] m within = within
after_time n (touch ∷ earlier) m within = go_time n touch (after n earlier m) (after_time n earlier m within)

after_log : (n : ℕ) (choices : List Bool) (m : State) → Extends m.log (after n choices m).log
unfolding after
after_log n [] m = extends_itself m.log
after_log n (touch ∷ earlier) m = extends_again m.log (after n earlier m).log (go n touch (after n earlier m)).log (after_log n earlier m) (go_log n touch (after n earlier m))

-- a run for n is at most one tick late
pub reaches_time : (n : ℕ) (m t : State) → Reaches n m t → m.time ≤ n + 1 → t.time ≤ n + 1
reaches_time n m t r within = omega (arith, after_time n r.choices m within, ap (λ (s : State). s.time) r.comes_to, touched-time r.early (after n r.choices m))

-- what a run has logged stays
pub reaches_log : (n : ℕ) (m t : State) → Reaches n m t → Extends m.log t.log
reaches_log n m t r = subst (Extends m.log) (sym (ap (λ (s : State). s.log) r.comes_to ∙ touched-log r.early (after n r.choices m))) (after_log n r.choices m)
