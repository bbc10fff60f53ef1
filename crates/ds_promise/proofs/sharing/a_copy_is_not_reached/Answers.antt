use Rattle.ds_promise.proofs.Shares.{copy_is_apart}
use Rattle.ds_promise.proofs.sharing.a_copy_is_not_reached.Goals as goal

pub returns : goal.returns
returns c = copy_is_apart
