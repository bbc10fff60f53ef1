use Rattle.ds_refinement.proofs.Boundaries.{rests}
use Rattle.ds_refinement.proofs.turns.nothing_is_left_to_do.Goals as goal

pub returns : goal.returns
returns c = rests
