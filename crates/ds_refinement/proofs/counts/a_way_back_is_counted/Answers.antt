use Rattle.ds_refinement.proofs.Counting.{back_moves}
use Rattle.ds_refinement.proofs.counts.a_way_back_is_counted.Goals as goal

pub returns : goal.returns
returns c = back_moves
