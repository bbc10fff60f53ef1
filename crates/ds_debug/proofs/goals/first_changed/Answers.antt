use Rattle.std.proofs.Common.{Some, sym, ap, ◌∙◌}
use Rattle.ds_debug.specs.declared.goals.Stop.{Stop}
use Rattle.ds_debug.proofs.Watching.{found_at, unfound_at}
use Rattle.ds_debug.proofs.goals.first_changed.Goals as goal

pub returns-then-has_changed-clause-value : goal.returns-then-has_changed-clause-value
returns-then-has_changed-clause-value g c =
    ap (λ (s : Stop). Some s) c.watch_stop.ensures
    ∙ sym (found_at (record { actions = c.args.actions.now; breakpoints = c.args.breakpoints.now }) c.args.station.now.held c.args.seen.now c.loop-byte.byte-index _ c.loop-byte-test.true c.loop-byte.invariant
    (sym c.has_changed.ensures.value ∙ c.if-has_changed.true))

pub loop-byte-preserved : goal.loop-byte-preserved
loop-byte-preserved g c =
    unfound_at (record { actions = c.args.actions.now; breakpoints = c.args.breakpoints.now }) c.args.station.now.held c.args.seen.now c.loop-byte.byte-index _ c.loop-byte-test.true c.loop-byte.invariant
    (sym c.has_changed.ensures.value ∙ c.if-has_changed.false)
