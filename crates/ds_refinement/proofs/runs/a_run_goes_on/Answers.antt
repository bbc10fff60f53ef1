use Rattle.ds_refinement.proofs.RunSteps.{within_start, within_step, within_stays, to_end, within_sound}
use Rattle.ds_refinement.proofs.runs.a_run_goes_on.Goals as goal

pub returns-clause-start : goal.returns-clause-start
returns-clause-start c = within_start

pub returns-clause-step : goal.returns-clause-step
returns-clause-step c = within_step

pub returns-clause-stays : goal.returns-clause-stays
returns-clause-stays c = within_stays

pub returns-clause-over : goal.returns-clause-over
returns-clause-over c = to_end

pub returns-clause-sound : goal.returns-clause-sound
returns-clause-sound c = within_sound
