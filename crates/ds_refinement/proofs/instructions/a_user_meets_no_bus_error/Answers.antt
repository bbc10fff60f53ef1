use Rattle.ds_refinement.proofs.Stages.{no_bus_error}
use Rattle.ds_refinement.proofs.instructions.a_user_meets_no_bus_error.Goals as goal

pub returns : goal.returns
returns c = no_bus_error
