use Rattle.std.proofs.Common.{length, arith}
use Rattle.ds_debug.specs.Sights.{sight_held}
use Rattle.ds_debug.specs.Reports.{listed_process}
use Rattle.ds_gdb.proofs.Pieces.{each_end, each_more, each_start}
use Rattle.ds_debug.proofs.reports.push_processes.Goals as goal

pub loop-index-init : goal.loop-index-init
loop-index-init g c = each_start (listed_process (sight_held c.args.station.now.held)) (length c.args.station.now.held.kept.state.processes) _

pub loop-index-preserved : goal.loop-index-preserved
loop-index-preserved g c =
    each_more (listed_process (sight_held c.args.station.now.held)) c.loop-index.index (length c.args.station.now.held.kept.state.processes) _ _ _ (omega (arith, c.loop-index-test.true, c.processes-index-end.ensures.held))
    c.in_ok-push_listed.ensures c.loop-index.invariant

pub returns : goal.returns
returns g c =
    each_end (listed_process (sight_held c.args.station.now.held)) c.loop-index.index (length c.args.station.now.held.kept.state.processes) _ _ (omega (arith, c.loop-index-test.false, c.processes-index-end.ensures.held)) c.loop-index.invariant
