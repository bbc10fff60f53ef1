use Rattle.std.proofs.Common.{arith}
use Rattle.ds_trace.proofs.Processes.{standings_more}
use Rattle.ds_trace.proofs.before.push_standings.Goals as goal

pub loop-process-preserved : goal.loop-process-preserved
loop-process-preserved g c =
    standings_more c.args.station.now.held.kept.state c.loop-process.process c.loop-process.standings.items c.push.new.self.items _ c.standing.result
    (omega (arith, c.loop-process.auto.process)) (omega (arith, c.loop-process-test.true, c.processes-process-end.ensures.held)) c.standing.ensures c.in_ok-push.ensures.items c.loop-process.invariant
