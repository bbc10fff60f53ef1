use Rattle.ds_refinement.proofs.AskedFor.{goes_on}
use Rattle.ds_refinement.proofs.asked.an_instruction_goes_on.Goals as goal

pub returns : goal.returns
returns c = λ h m p rest s n dirty k ready user is. goes_on h m p rest k ready user s is n dirty
