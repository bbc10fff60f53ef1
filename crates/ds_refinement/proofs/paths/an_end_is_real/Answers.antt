use Rattle.ds_refinement.proofs.Joined.{end_real}
use Rattle.ds_refinement.proofs.paths.an_end_is_real.Goals as goal

pub returns : goal.returns
returns c = end_real
