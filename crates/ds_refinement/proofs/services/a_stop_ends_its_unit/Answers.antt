use Rattle.ds_refinement.proofs.Ending.{denied_ends, fault_ends, slot_ends}
use Rattle.ds_refinement.proofs.services.a_stop_ends_its_unit.Goals as goal

pub returns-clause-access : goal.returns-clause-access
returns-clause-access c = λ h new p rest access rule code ready served left is denied. denied_ends h new p rest ready served left access rule code is denied

pub returns-clause-fault : goal.returns-clause-fault
returns-clause-fault c = λ h new p rest code ready served left. fault_ends h new p rest ready served left code

pub returns-clause-slot : goal.returns-clause-slot
returns-clause-slot c = slot_ends
