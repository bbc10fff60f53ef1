use Rattle.ds_refinement.proofs.AskedFor.{miss_asks, store_asks}
use Rattle.ds_refinement.proofs.asked.an_exception_is_asked_for.Goals as goal

pub returns-clause-miss : goal.returns-clause-miss
returns-clause-miss c = λ h m p rest s code k ready user is. miss_asks h m p rest k ready user s is code

pub returns-clause-store : goal.returns-clause-store
returns-clause-store c = λ h m p rest s k ready user is. store_asks h m p rest k ready user s is
