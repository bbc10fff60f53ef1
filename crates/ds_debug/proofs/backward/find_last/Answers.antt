use Rattle.std.proofs.Common.{◌≡◌, ℕ, ◌+◌, ◌≤◌, inl, List, subst, ap, ◌∙◌, arith}
use Rattle.ds_refinement.specs.Held.{Held}
use Rattle.ds_refinement.specs.Runs.{RunsTo}
use Rattle.ds_station.proofs.InPieces.{over_whole}
use Rattle.ds_debug.specs.Goals.{Goal, goal_with}
use Rattle.ds_debug.specs.Forward.{IsTurn}
use Rattle.ds_debug.specs.Places.{began_at, place_after}
use Rattle.ds_debug.specs.declared.places.Began.{Began}
use Rattle.ds_debug.specs.declared.places.Place.{Place}
use Rattle.ds_debug.specs.declared.watches.Seen.{Seen}
use Rattle.ds_debug.proofs.Going.{still_over, time_over}
use Rattle.ds_debug.proofs.Returning.{either, none_found, one_found}
use Rattle.ds_debug.proofs.backward.find_last.Goals as goal

pub loop-alloc-init : goal.loop-alloc-init
loop-alloc-init g c = record {
  found = none_found c.args.sought (goal_with c.args.actions.now c.args.breakpoints.now c.args.watchpoints.now) c.args.until c.args.station.now.held;
  small = tt;
  early = tt;
  whole = c.requires.whole;
  spent = c.requires.spent;
  working = c.requires.working;
}

pub loop-alloc-preserved : goal.loop-alloc-preserved
loop-alloc-preserved g c =
    let goal_here : Goal = goal_with c.args.actions.now c.args.breakpoints.now c.args.watchpoints.now in
    let last : Held = c.loop-alloc.station.held in
    let new : Held = c.run.new.self.held in
    let began : c.began_at-began.result.time ≡ last.kept.state.time = ap (λ (b : Began). b.time) c.began_at-began.ensures.value in
    let turn : IsTurn c.args.until last new = record {
      early = omega (arith, c.loop-alloc-test.true, c.time.ensures.held);
      runs = subst (λ (t : ℕ). RunsTo (t + 1) last new) began c.in-Ok.ensures.ok;
      path = c.in-Ok.ensures.real;
      later = omega (arith, began, c.if-time-began.false, c.time-in-loop-alloc.ensures.held);
    } in
    record {
      found = rw c.or_else-place.ensures (one_found c.args.sought goal_here c.args.until c.loop-alloc.place c.place_after-found.result c.args.station.now.held last new c.loop-alloc.invariant.found turn
          (c.place_after-found.ensures.value
          ∙ (ap (λ (b : Began). place_after c.args.sought goal_here.aim c.args.until b c.as_slice.result.now new) c.began_at-began.ensures.value
          ∙ ap (λ (s : List Seen). place_after c.args.sought goal_here.aim c.args.until (began_at last) s new) (c.as_slice.ensures.value ∙ c.in_ok-seen.ensures))));
      small = rw c.or_else-place.ensures (either (λ (p : Place). p.stop.process ≤ 100) c.place_after-found.result c.loop-alloc.place c.place_after-found.ensures.small c.loop-alloc.invariant.small);
      early = rw c.or_else-place.ensures (either (λ (p : Place). p.time ≤ c.args.until) c.place_after-found.result c.loop-alloc.place c.place_after-found.ensures.early c.loop-alloc.invariant.early);
      whole = over_whole (c.began_at-began.result.time + 1) new c.in-Ok.ensures.over;
      spent = c.in-Ok.ensures.unit (inl c.loop-alloc.invariant.spent);
      working = c.in-Ok.ensures.good;
    }

pub returns-then-time-began-clause-finds : goal.returns-then-time-began-clause-finds
returns-then-time-began-clause-finds g c =
    let began : c.began_at-began.result.time ≡ c.loop-alloc.station.held.kept.state.time = ap (λ (b : Began). b.time) c.began_at-began.ensures.value in
    record {
      last = c.loop-alloc.station.held;
      found = c.loop-alloc.invariant.found;
      still = omega (arith, began, c.if-time-began.true, c.time-in-loop-alloc.ensures.held);
      over = still_over c.args.until c.began_at-began.result.time c.run.new.self.held (omega (arith, c.if-time-began.true, c.time-in-loop-alloc.ensures.held)) c.in-Ok.ensures.over;
    }

pub returns-clause-finds : goal.returns-clause-finds
returns-clause-finds g c = record {
  last = c.loop-alloc.station.held;
  found = c.loop-alloc.invariant.found;
  still = omega arith;
  over = time_over c.args.until c.loop-alloc.station.held c.loop-alloc.invariant.whole (omega (arith, c.loop-alloc-test.false, c.time.ensures.held));
}
