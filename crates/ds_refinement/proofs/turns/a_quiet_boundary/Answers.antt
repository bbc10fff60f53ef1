use Rattle.ds_refinement.proofs.Boundaries.{quiet}
use Rattle.ds_refinement.proofs.turns.a_quiet_boundary.Goals as goal

pub returns : goal.returns
returns c = quiet
