use Rattle.ds_refinement.proofs.Counting.{word_moves}
use Rattle.ds_refinement.proofs.counts.a_word_is_counted.Goals as goal

pub returns : goal.returns
returns c = word_moves
