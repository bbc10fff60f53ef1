use Rattle.std.proofs.Common.{◌≡◌, ap, ◌∙◌, arith}
use Rattle.ds_bare.specs.Machine.{Machine}
use Rattle.ds_bare_debug.specs.Going.{place_or}
use Rattle.ds_bare_debug.specs.Positions.{Position, first_position}
use Rattle.ds_bare_debug.specs.Watches.{watched_now}
use Rattle.ds_bare_debug.specs.Inner.Goals.{goal_seen}
use Rattle.ds_bare_debug.specs.Runs.{run_seen}
use Rattle.ds_bare_debug.specs.declared.back.Place.{Place}
use Rattle.ds_bare_debug.proofs.Going.{last_none, one_looked, place_early, position_more, stop_told}
use Rattle.ds_bare_debug.proofs.Positions.{after_none, done_at}
use Rattle.ds_bare_debug.proofs.back.last_stop.Goals as goal

pub loop-done-init : goal.loop-done-init
loop-done-init c =
    let none : c.first_place-place.result.done ≡ 0 = ap (λ (p : Place). p.done) c.first_place-place.ensures in
    record {
      there = c.requires.first ∙ after_none (first_position (run_seen c.args.run));
      place = c.first_place-place.ensures ∙ last_none (run_seen c.args.run) (goal_seen c.args.goal);
      early = omega (arith, none);
    }

pub step-requires : goal.step-requires
step-requires c =
    let at : c.loop-done.runner.done ≡ c.loop-done.done = ap (λ (p : Position). p.done) c.loop-done.invariant.there ∙ done_at (run_seen c.args.run) c.loop-done.done in
    omega (arith, at, c.loop-done-test.true, c.requires.few)

pub loop-done-preserved : goal.loop-done-preserved
loop-done-preserved c = record {
  there = position_more (run_seen c.args.run) (goal_seen c.args.goal) c.loop-done.done c.loop-done.runner c.step.new.self c.loop-done.invariant.there c.in_ok-step.ensures;
  place =
      c.place_or-place.ensures
      ∙ one_looked (run_seen c.args.run) (goal_seen c.args.goal) c.loop-done.done c.loop-done.runner c.step.new.self c.loop-done.place c.stop_after.result c.loop-done.invariant.there c.in_ok-step.ensures c.loop-done.invariant.place
      (stop_told (goal_seen c.args.goal) c.loop-done.runner c.step.new.self c.as_slice.result.now c.stop_after.result
      (c.as_slice.ensures.value ∙ (c.in_ok-seen.ensures ∙ ap (λ (m : Machine). watched_now m c.args.goal.watchpoints.now) c.machine.ensures)) c.stop_after.ensures);
  early = rw c.place_or-place.ensures (place_early c.stop_after.result c.loop-done.done c.loop-done.place c.loop-done.invariant.early);
}
