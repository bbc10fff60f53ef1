use Rattle.std.proofs.Common.{sym}
use Rattle.ds_explain.proofs.Units.{goes_on}
use Rattle.ds_explain.proofs.moments.stopped.Goals as goal

pub loop-found-preserved : goal.loop-found-preserved
loop-found-preserved g c =
    goes_on c.args.station.now.held c.args.process c.loop-found.found c.loop-found.now c.found_in-now.result c.loop-found.step c.in_ok-step-2.step c.loop-found.station.held c.step-in-loop-found.new.self.held
    (sym c.loop-found-test.ensures) c.loop-found.invariant c.found_in-now.ensures
    (c.in_ok-step-2.ensures.ok, c.in_ok-step-2.ensures.moves, c.in_ok-step-2.ensures.real)
