use Rattle.std.proofs.Common.{length, arith}
use Rattle.ds_trace.proofs.Processes.{process_more}
use Rattle.ds_trace.proofs.Scanning.{seen}
use Rattle.ds_trace.proofs.ends.push_processes.Goals as goal

pub loop-process-preserved : goal.loop-process-preserved
loop-process-preserved g c =
    process_more c.args.names (seen c.args.lines.now) c.args.station.now.held c.loop-process.process (length c.args.station.now.held.kept.state.processes) c.loop-process.text.items _ c.standing-standing.result c.address-address.result c.general-general.result _
    (omega (arith, c.loop-process-test.true, c.processes-process-end.ensures.held)) c.loop-process.invariant c.in_ok-push_process.ensures c.standing-standing.ensures c.address-address.ensures c.general-general.ensures.held
