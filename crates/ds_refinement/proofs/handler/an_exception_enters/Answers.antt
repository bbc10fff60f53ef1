use Rattle.ds_refinement.proofs.Entered.{enters, none_owed, user_mode}
use Rattle.ds_refinement.proofs.handler.an_exception_enters.Goals as goal

pub returns : goal.returns
returns c = λ h m p rest e k ready owed user at units promise miss ends whole. enters h m p rest e k ready whole (user_mode h m p rest k ready user) (none_owed h m p rest k ready owed) at units miss ends promise
