use Rattle.ds_refinement.proofs.Boundaries.{idle}
use Rattle.ds_refinement.proofs.turns.an_idle_turn.Goals as goal

pub returns : goal.returns
returns c = idle
