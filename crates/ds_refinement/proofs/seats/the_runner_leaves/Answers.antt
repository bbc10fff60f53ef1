use Rattle.ds_refinement.proofs.Seating.{leaves}
use Rattle.ds_refinement.proofs.seats.the_runner_leaves.Goals as goal

pub returns : goal.returns
returns c = leaves
