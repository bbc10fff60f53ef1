use Rattle.ds_promise.proofs.Kinship.{came_of_ends}
use Rattle.ds_promise.proofs.KinRuns.{inputs_kin, under_kin, half_kin, reaches_kin}
use Rattle.ds_promise.proofs.ends.what_came_of_an_entry_ends_with_it.Goals as goal

pub returns-clause-first : goal.returns-clause-first
returns-clause-first c = inputs_kin

pub returns-clause-under : goal.returns-clause-under
returns-clause-under c = under_kin

pub returns-clause-half : goal.returns-clause-half
returns-clause-half c = half_kin

pub returns-clause-run : goal.returns-clause-run
returns-clause-run c = reaches_kin

pub returns-clause-came : goal.returns-clause-came
returns-clause-came c = λ table p a q b g h k came there held right. came_of_ends table k p a q b g h came there held right
