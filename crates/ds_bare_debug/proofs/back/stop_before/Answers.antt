use Rattle.std.proofs.Common.{◌≡◌, ◌-◌, ap, ◌∙◌, arith}
use Rattle.ds_bare.specs.Machine.{Machine}
use Rattle.ds_bare_debug.specs.Positions.{Position}
use Rattle.ds_bare_debug.specs.Watches.{first_differing, watched_now}
use Rattle.ds_bare_debug.specs.Inner.Goals.{goal_seen}
use Rattle.ds_bare_debug.specs.Runs.{run_seen}
use Rattle.ds_bare_debug.proofs.Going.{before_told, watch_told}
use Rattle.ds_bare_debug.proofs.Positions.{done_at}
use Rattle.ds_bare_debug.proofs.back.stop_before.Goals as goal

pub step-requires : goal.step-requires
step-requires c =
    let at : c.last_stop.new.runner.done ≡ c.args.done - 1 = ap (λ (p : Position). p.done) c.in_ok-place.ensures.there ∙ done_at (run_seen c.args.run) (c.args.done - 1) in
    omega (arith, at, c.if-done-eq0.false, c.requires.few)

pub returns-clause-place : goal.returns-clause-place
returns-clause-place c =
    c.place_or.ensures
    ∙ before_told (run_seen c.args.run) (goal_seen c.args.goal) c.args.done c.last_stop.new.runner c.step.new.self c.in_ok-place.place c.first_differing.result (omega (arith, c.if-done-eq0.false)) c.in_ok-place.ensures.there c.in_ok-step.ensures
    c.in_ok-place.ensures.place
    (watch_told (goal_seen c.args.goal) c.last_stop.new.runner c.step.new.self c.as_slice.result.now c.first_differing.result
    (c.as_slice.ensures.value ∙ (c.in_ok-seen.ensures ∙ ap (λ (m : Machine). watched_now m c.args.goal.watchpoints.now) c.machine.ensures))
    (c.first_differing.ensures ∙ ap (λ (m : Machine). first_differing m c.as_slice.result.now) c.machine-2.ensures))
