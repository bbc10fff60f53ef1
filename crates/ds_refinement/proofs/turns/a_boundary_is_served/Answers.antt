use Rattle.ds_refinement.proofs.Attended.{boundary_served}
use Rattle.ds_refinement.proofs.turns.a_boundary_is_served.Goals as goal

pub returns : goal.returns
returns c = boundary_served
