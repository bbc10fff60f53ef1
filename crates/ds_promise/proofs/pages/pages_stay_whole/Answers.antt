use Rattle.ds_promise.proofs.FirstPages.{inputs_whole, under_whole}
use Rattle.ds_promise.proofs.WholeStates.{half_whole, reaches_whole}
use Rattle.ds_promise.proofs.pages.pages_stay_whole.Goals as goal

pub returns-clause-first : goal.returns-clause-first
returns-clause-first c = inputs_whole

pub returns-clause-half : goal.returns-clause-half
returns-clause-half c = half_whole

pub returns-clause-run : goal.returns-clause-run
returns-clause-run c = reaches_whole

pub returns-clause-under : goal.returns-clause-under
returns-clause-under c = under_whole
