use Rattle.ds_refinement.proofs.Joined.{copy_real, double_real}
use Rattle.ds_refinement.proofs.paths.a_way_back_is_real.Goals as goal

pub returns-clause-copy : goal.returns-clause-copy
returns-clause-copy c = copy_real

pub returns-clause-double : goal.returns-clause-double
returns-clause-double c = double_real
