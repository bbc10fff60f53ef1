use Rattle.ds_refinement.proofs.Counting.{stop_moves, call_moves}
use Rattle.ds_refinement.proofs.counts.an_ended_unit_is_counted.Goals as goal

pub returns-clause-stop : goal.returns-clause-stop
returns-clause-stop c = stop_moves

pub returns-clause-call : goal.returns-clause-call
returns-clause-call c = call_moves
