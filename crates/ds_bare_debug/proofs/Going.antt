-- A run that goes forward, and one that is gone through anew.
use Rattle.std.proofs.Common.{◌≡◌, ℕ, zero, suc, ◌+◌, ◌-◌, ◌<◌, ◌≤◌, Bool, true, false, cond, List, Option, Some, None, refl, sym, ap, ◌∙◌, arith}
use Rattle.ds_gdb.specs.declared.stops.Reason.{Reason}
use Rattle.ds_gdb.specs.declared.stops.Reason.TheVariants.{Begin, End}
use Rattle.ds_bare_debug.specs.Goals.{BareGoal, or_else, stop_coming, stop_here, watch_between}
use Rattle.ds_bare_debug.specs.Going.{Came, came_or, last_stop, next_stop, place_or, stop_before}
use Rattle.ds_bare_debug.specs.Positions.{BareRun, Position, onward, position}
use Rattle.ds_bare_debug.specs.Watches.{watched_now, first_differing}
use Rattle.ds_bare_debug.specs.declared.back.Place.{Place}
use Rattle.ds_bare_debug.specs.declared.watches.Seen.{Seen}
use Rattle.ds_bare_debug.proofs.Positions.{after_more}

abbrev came : Position → Reason → Came
came p reason = record { position = p; reason = reason }

one_left : (limit k : ℕ) → k < limit → limit - k ≡ suc (limit - (k + 1))
one_left limit k within = omega (arith, within)

-- what stops, by what was seen before
pub stop_told : (g : BareGoal) (p q : Position) (seen : List Seen) (r : Option Reason) → seen ≡ watched_now p.machine g.watchpoints → r ≡ or_else (first_differing q.machine seen) (stop_here g q.done q.machine.core.pc) → r ≡ stop_coming g p q
unfolding stop_coming
stop_told g p q seen r saw is = is ∙ ap (λ (s : List Seen). or_else (first_differing q.machine s) (stop_here g q.done q.machine.core.pc)) saw

pub watch_told : (g : BareGoal) (p q : Position) (seen : List Seen) (r : Option Reason) → seen ≡ watched_now p.machine g.watchpoints → r ≡ first_differing q.machine seen → r ≡ watch_between g p q
unfolding watch_between
watch_told g p q seen r saw is = is ∙ ap (first_differing q.machine) saw

module _ (g : BareGoal) where
  next_none : (p : Position) → next_stop g 0 p ≡ came p End
  unfolding next_stop
  next_none p = refl

  next_more : (n : ℕ) (p : Position) → next_stop g (suc n) p ≡ cond p.over (came p End) (came_or (stop_coming g p (onward p)) (onward p) (next_stop g n (onward p)))
  unfolding next_stop
  next_more n p = refl

  -- a run that has ended goes no further
  pub going_over : (limit : ℕ) (p : Position) (whole : Came) → p.done < limit → p.over ≡ true → next_stop g (limit - p.done) p ≡ whole → came p End ≡ whole
  going_over limit p whole within over is =
      let n : ℕ = limit - (p.done + 1) in
      sym (ap (λ (b : Bool). cond b (came p End) (came_or (stop_coming g p (onward p)) (onward p) (next_stop g n (onward p)))) over)
      ∙ (sym (next_more n p) ∙ (ap (λ (m : ℕ). next_stop g m p) (sym (one_left limit p.done within)) ∙ is))

  -- nor does one that has done all
  pub going_ends : (limit : ℕ) (p : Position) (whole : Came) → limit ≤ p.done → next_stop g (limit - p.done) p ≡ whole → came p End ≡ whole
  going_ends limit p whole past is =
      let none : 0 ≡ limit - p.done = omega (arith, past) in
      sym (next_none p) ∙ (ap (λ (m : ℕ). next_stop g m p) none ∙ is)

  module _ (limit : ℕ) (p q : Position) (whole : Came) (o : Option Reason) (within : p.done < limit) (live : p.over ≡ false) (next : q ≡ onward p)
      (told : o ≡ stop_coming g p q) (is : next_stop g (limit - p.done) p ≡ whole) where
    step_on : came_or o q (next_stop g (limit - (p.done + 1)) q) ≡ whole
    step_on =
        let n : ℕ = limit - (p.done + 1) in
        let here : o ≡ stop_coming g p (onward p) = told ∙ ap (stop_coming g p) next in
        ap (λ (x : Position). came_or o x (next_stop g n x)) next
        ∙ (ap (λ (x : Option Reason). came_or x (onward p) (next_stop g n (onward p))) here
        ∙ (sym (ap (λ (b : Bool). cond b (came p End) (came_or (stop_coming g p (onward p)) (onward p) (next_stop g n (onward p)))) live)
        ∙ (sym (next_more n p) ∙ (ap (λ (m : ℕ). next_stop g m p) (sym (one_left limit p.done within)) ∙ is))))

    -- where something stops, the run has come there
    pub going_stops : (reason : Reason) → o ≡ Some reason → came q reason ≡ whole
    going_stops reason some = ap (λ (x : Option Reason). came_or x q (next_stop g (limit - (p.done + 1)) q)) (sym some) ∙ step_on

    -- and else it goes on
    pub going_on : o ≡ None → q.done ≡ p.done + 1 → next_stop g (limit - q.done) q ≡ whole
    going_on none more =
        ap (λ (k : ℕ). next_stop g (limit - k) q) more
        ∙ (ap (λ (x : Option Reason). came_or x q (next_stop g (limit - (p.done + 1)) q)) (sym none) ∙ step_on)

module _ (r : BareRun) (g : BareGoal) where
  -- at first there is none
  pub last_none : record { done = 0; reason = Begin } ≡ last_stop r g 0
  unfolding last_stop
  last_none = refl

  last_more : (k : ℕ) → place_or (stop_coming g (position r k) (position r (suc k))) (suc k) (last_stop r g k) ≡ last_stop r g (suc k)
  unfolding last_stop
  last_more k = refl

  pub position_more : (k : ℕ) (p q : Position) → p ≡ position r k → q ≡ onward p → q ≡ position r (k + 1)
  position_more k p q at next =
      let same : suc k ≡ k + 1 = omega arith in
      next ∙ (ap onward at ∙ (after_more _ k ∙ ap (position r) same))

  -- one position more is looked at
  pub one_looked : (k : ℕ) (p q : Position) (place : Place) (o : Option Reason) → p ≡ position r k → q ≡ onward p → place ≡ last_stop r g k → o ≡ stop_coming g p q → place_or o (k + 1) place ≡ last_stop r g (k + 1)
  one_looked k p q place o at next is told =
      let same : suc k ≡ k + 1 = omega arith in
      let there : q ≡ position r (suc k) = next ∙ (ap onward at ∙ after_more _ k) in
      let stops : o ≡ stop_coming g (position r k) (position r (suc k)) = told ∙ (ap (λ (x : Position). stop_coming g x q) at ∙ ap (stop_coming g (position r k)) there) in
      ap (λ (x : Option Reason). place_or x (k + 1) place) stops
      ∙ (ap (place_or (stop_coming g (position r k) (position r (suc k))) (k + 1)) is
      ∙ (ap (λ (n : ℕ). place_or (stop_coming g (position r k) (position r (suc k))) n (last_stop r g k)) (sym same)
      ∙ (last_more k ∙ ap (last_stop r g) same)))

  -- and by what is watched alone at the last
  pub before_told : (done : ℕ) (p q : Position) (place : Place) (o : Option Reason) → 0 < done → p ≡ position r (done - 1) → q ≡ onward p → place ≡ last_stop r g (done - 1) → o ≡ watch_between g p q → place_or o done place ≡ stop_before r g done
  before_told zero p q place o some at next is told = absurd (omega (arith, some))
  before_told (suc k) p q place o some at next is told =
      let back : suc k - 1 ≡ k = omega arith in
      let here : p ≡ position r k = at ∙ ap (position r) back in
      let there : q ≡ position r (suc k) = next ∙ (ap onward here ∙ after_more _ k) in
      let stops : o ≡ watch_between g (position r k) (position r (suc k)) = told ∙ (ap (λ (x : Position). watch_between g x q) here ∙ ap (watch_between g (position r k)) there) in
      ap (λ (x : Option Reason). place_or x (suc k) place) stops ∙ ap (place_or (watch_between g (position r k) (position r (suc k))) (suc k)) (is ∙ ap (last_stop r g) back)

-- a place is not later than what was looked at
pub place_early : (o : Option Reason) (k : ℕ) (place : Place) → place.done ≤ k → (place_or o (k + 1) place).done ≤ k + 1
place_early None k place early = omega (arith, early)
place_early (Some reason) k place early = omega arith
