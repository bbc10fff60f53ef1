use Rattle.std.proofs.Common.{arith}
use Rattle.std.specs.String.{string_bytes}
use Rattle.ds_trace.proofs.Processes.{changes_more}
use Rattle.ds_trace.proofs.changes.push_changes.Goals as goal

pub loop-process-preserved : goal.loop-process-preserved
loop-process-preserved g c =
    changes_more c.args.view.now c.args.station.now.held.kept.state c.args.station.now.held.kept.state.time c.time.result c.args.before.now c.loop-process.process (string_bytes c.loop-process.line) (string_bytes c.push_change.new.line) _ c.standing_in-old.result c.standing-standing.result
    (omega (arith, c.loop-process.auto.process)) (omega (arith, c.loop-process-test.true, c.processes-process-end.ensures.held)) c.time.ensures.held c.standing_in-old.ensures c.standing-standing.ensures c.in_ok-push_change.ensures c.loop-process.invariant
