use Rattle.ds_refinement.proofs.Counting.{event_moves}
use Rattle.ds_refinement.proofs.counts.an_instruction_is_counted.Goals as goal

pub returns : goal.returns
returns c = event_moves
