use Rattle.std.proofs.Common.{arith}
use Rattle.std.specs.String.{string_bytes}
use Rattle.ds_trace.proofs.Tables.{tables_more}
use Rattle.ds_trace.proofs.entries.push_tables.Goals as goal

pub loop-process-preserved : goal.loop-process-preserved
loop-process-preserved g c =
    tables_more c.args.view.now c.args.time c.args.rows.now c.args.station.now.held.kept.grants.table c.loop-process.process (string_bytes c.loop-process.line) (string_bytes c.push_changed.new.line) _ c.row_of.result.now c.entries.result.now
    (omega (arith, c.loop-process-test.true)) c.row_of.ensures c.entries.ensures c.in_ok-push_changed.ensures c.loop-process.invariant
