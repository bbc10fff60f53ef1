use Rattle.ds_refinement.proofs.Attended.{idle_served}
use Rattle.ds_refinement.proofs.turns.an_idle_turn_is_served.Goals as goal

pub returns : goal.returns
returns c = idle_served
