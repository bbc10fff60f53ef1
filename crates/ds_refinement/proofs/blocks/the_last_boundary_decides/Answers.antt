use Rattle.ds_refinement.proofs.Quieter.{quiet_until}
use Rattle.ds_refinement.proofs.blocks.the_last_boundary_decides.Goals as goal

pub returns : goal.returns
returns c = quiet_until
