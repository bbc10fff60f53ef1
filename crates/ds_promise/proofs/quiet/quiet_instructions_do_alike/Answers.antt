use Rattle.ds_promise.proofs.Quietness.{quiet}
use Rattle.ds_promise.proofs.quiet.quiet_instructions_do_alike.Goals as goal

pub returns : goal.returns
returns c = quiet
