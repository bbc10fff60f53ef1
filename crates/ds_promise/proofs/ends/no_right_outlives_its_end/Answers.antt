use Rattle.ds_promise.proofs.Expiry.{inputs_in_time, under_in_time, half_in_time, reaches_in_time, allowed_in_time}
use Rattle.ds_promise.proofs.ends.no_right_outlives_its_end.Goals as goal

pub returns-clause-first : goal.returns-clause-first
returns-clause-first c = inputs_in_time

pub returns-clause-under : goal.returns-clause-under
returns-clause-under c = under_in_time

pub returns-clause-half : goal.returns-clause-half
returns-clause-half c = half_in_time

pub returns-clause-run : goal.returns-clause-run
returns-clause-run c = reaches_in_time

pub returns-clause-access : goal.returns-clause-access
returns-clause-access c = allowed_in_time
