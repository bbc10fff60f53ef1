use Rattle.ds_promise.proofs.Shares.{drop_passes_on, command_passes_on}
use Rattle.ds_promise.proofs.sharing.a_drop_hands_shares_to_the_one_above.Goals as goal

pub returns-clause-call : goal.returns-clause-call
returns-clause-call c = drop_passes_on

pub returns-clause-command : goal.returns-clause-command
returns-clause-command c = command_passes_on
