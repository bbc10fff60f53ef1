use Rattle.std.proofs.Common.{length, sym, ◌∙◌, arith}
use Rattle.ds_debug.proofs.Exiting.{others_end, others_more, others_some, others_start}
use Rattle.ds_debug.proofs.exits.others_ended.Goals as goal

pub loop-index-init : goal.loop-index-init
loop-index-init g c = others_start c.args.station.now.held c.args.process (length c.args.station.now.held.kept.state.processes)

pub loop-index-preserved : goal.loop-index-preserved
loop-index-preserved g c =
    others_more c.args.station.now.held c.args.process c.loop-index.index (length c.args.station.now.held.kept.state.processes) _ (omega (arith, c.loop-index-test.true, c.processes-index-end.ensures.held))
    (sym c.is_out.ensures ∙ c.if-not-is_out.false) c.loop-index.invariant

pub returns-then-not-is_out : goal.returns-then-not-is_out
returns-then-not-is_out g c =
    others_some c.args.station.now.held c.args.process c.loop-index.index (length c.args.station.now.held.kept.state.processes) _ (omega (arith, c.loop-index-test.true, c.processes-index-end.ensures.held))
    (sym c.is_out.ensures ∙ c.if-not-is_out.true) c.loop-index.invariant

pub returns : goal.returns
returns g c =
    others_end c.args.station.now.held c.args.process c.loop-index.index (length c.args.station.now.held.kept.state.processes) _ (omega (arith, c.loop-index-test.false, c.processes-index-end.ensures.held)) c.loop-index.invariant
