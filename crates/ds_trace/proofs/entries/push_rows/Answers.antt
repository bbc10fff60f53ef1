use Rattle.std.proofs.Common.{◌∙◌, arith}
use Rattle.ds_trace.proofs.Tables.{rows_more}
use Rattle.ds_trace.proofs.entries.push_rows.Goals as goal

pub loop-process-preserved : goal.loop-process-preserved
loop-process-preserved g c =
    rows_more c.args.station.now.held.kept.grants.table c.loop-process.process c.loop-process.rows.items c.push.new.self.items _ c.in_ok-of.field-0
    (omega (arith, c.loop-process.auto.process)) (omega (arith, c.loop-process-test.true, c.processes-process-end.ensures.table)) (c.in_ok-of.ensures ∙ c.entries.ensures) c.in_ok-push.ensures.items c.loop-process.invariant
