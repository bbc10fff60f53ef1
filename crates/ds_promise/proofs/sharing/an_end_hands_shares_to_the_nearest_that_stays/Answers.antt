use Rattle.ds_promise.proofs.Shares.{exit_hands_on, stop_hands_on}
use Rattle.ds_promise.proofs.sharing.an_end_hands_shares_to_the_nearest_that_stays.Goals as goal

pub returns-clause-exit : goal.returns-clause-exit
returns-clause-exit c = exit_hands_on

pub returns-clause-stop : goal.returns-clause-stop
returns-clause-stop c = stop_hands_on
