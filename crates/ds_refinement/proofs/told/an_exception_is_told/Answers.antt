use Rattle.ds_refinement.proofs.Exceptions.{code_told, slot_told, own_told, address_told, space_told}
use Rattle.ds_refinement.proofs.told.an_exception_is_told.Goals as goal

pub returns-clause-code : goal.returns-clause-code
returns-clause-code c = code_told

pub returns-clause-slot : goal.returns-clause-slot
returns-clause-slot c = slot_told

pub returns-clause-own : goal.returns-clause-own
returns-clause-own c = own_told

pub returns-clause-address : goal.returns-clause-address
returns-clause-address c = address_told

pub returns-clause-space : goal.returns-clause-space
returns-clause-space c = space_told
