use Rattle.ds_promise.proofs.Runs.{quiet_text, one_text}
use Rattle.ds_promise.proofs.quiet.quiet_runs_look_alike.Goals as goal

pub returns-clause-untouched : goal.returns-clause-untouched
returns-clause-untouched c = quiet_text

pub returns-clause-one : goal.returns-clause-one
returns-clause-one c = one_text
