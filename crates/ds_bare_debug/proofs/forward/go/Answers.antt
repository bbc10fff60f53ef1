use Rattle.std.proofs.Common.{◌≡◌, ◌+◌, sym, ap, ◌∙◌, arith}
use Rattle.ds_bare.specs.Machine.{Machine}
use Rattle.ds_bare_debug.specs.Positions.{Position}
use Rattle.ds_bare_debug.specs.Watches.{watched_now}
use Rattle.ds_bare_debug.specs.Inner.Goals.{goal_seen}
use Rattle.ds_bare_debug.proofs.Going.{going_ends, going_on, going_over, going_stops, stop_told}
use Rattle.ds_bare_debug.proofs.Positions.{onward_done}
use Rattle.ds_bare_debug.proofs.forward.go.Goals as goal

pub returns-then-is_over : goal.returns-then-is_over
returns-then-is_over c =
    going_over (goal_seen c.args.goal) c.args.limit c.loop-alloc.runner _ (omega (arith, c.loop-alloc-test.true, c.done.ensures.value)) (sym c.is_over.ensures ∙ c.if-is_over.true) c.loop-alloc.invariant

pub returns-in-Some : goal.returns-in-Some
returns-in-Some c =
    going_stops (goal_seen c.args.goal) c.args.limit c.loop-alloc.runner c.step.new.self _ c.stop_after.result (omega (arith, c.loop-alloc-test.true, c.done.ensures.value)) (sym c.is_over.ensures ∙ c.if-is_over.false) c.in_ok-step.ensures
    (stop_told (goal_seen c.args.goal) c.loop-alloc.runner c.step.new.self c.as_slice.result.now c.stop_after.result
    (c.as_slice.ensures.value ∙ (c.in_ok-seen.ensures ∙ ap (λ (m : Machine). watched_now m c.args.goal.watchpoints.now) c.machine.ensures)) c.stop_after.ensures)
    c.loop-alloc.invariant c.in-Some.reason c.in-Some.is

pub loop-alloc-preserved : goal.loop-alloc-preserved
loop-alloc-preserved c =
    going_on (goal_seen c.args.goal) c.args.limit c.loop-alloc.runner c.step.new.self _ c.stop_after.result (omega (arith, c.loop-alloc-test.true, c.done.ensures.value)) (sym c.is_over.ensures ∙ c.if-is_over.false) c.in_ok-step.ensures
    (stop_told (goal_seen c.args.goal) c.loop-alloc.runner c.step.new.self c.as_slice.result.now c.stop_after.result
    (c.as_slice.ensures.value ∙ (c.in_ok-seen.ensures ∙ ap (λ (m : Machine). watched_now m c.args.goal.watchpoints.now) c.machine.ensures)) c.stop_after.ensures)
    c.loop-alloc.invariant c.in-None.is (ap (λ (p : Position). p.done) c.in_ok-step.ensures ∙ onward_done c.loop-alloc.runner)

pub returns : goal.returns
returns c = going_ends (goal_seen c.args.goal) c.args.limit c.loop-alloc.runner _ (omega (arith, c.loop-alloc-test.false, c.done.ensures.value)) c.loop-alloc.invariant

pub loop-alloc-smaller : goal.loop-alloc-smaller
loop-alloc-smaller c =
    let more : c.step.new.self.done ≡ c.loop-alloc.runner.done + 1 = ap (λ (p : Position). p.done) c.in_ok-step.ensures ∙ onward_done c.loop-alloc.runner in
    omega (arith, more, c.loop-alloc-test.true, c.done.ensures.value)
