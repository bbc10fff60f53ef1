use Rattle.ds_explain.proofs.Units.{Walk, left}
use Rattle.ds_explain.proofs.moments.stopped.Given as goal

-- the registers are those before the last step but one, and before the last
abbrev pub invariant-loop-found : goal.invariant-loop-found
invariant-loop-found g l = Walk l.fn.station.held l.process l.found l.now l.step l.station.held

abbrev pub decreases-loop-found : goal.decreases-loop-found
decreases-loop-found g l = left l.step l.station.held
