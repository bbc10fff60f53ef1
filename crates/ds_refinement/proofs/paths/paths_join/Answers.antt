use Rattle.ds_refinement.proofs.Joined.{one_step, through_both, path_join}
use Rattle.ds_refinement.proofs.paths.paths_join.Goals as goal

pub returns-clause-one : goal.returns-clause-one
returns-clause-one c = one_step

pub returns-clause-through : goal.returns-clause-through
returns-clause-through c = through_both

pub returns-clause-join : goal.returns-clause-join
returns-clause-join c = path_join
