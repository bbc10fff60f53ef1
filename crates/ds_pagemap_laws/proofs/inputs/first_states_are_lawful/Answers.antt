use Rattle.ds_pagemap_laws.proofs.FirstStates.{inputs_lawful, inputs_ordered}
use Rattle.ds_pagemap_laws.proofs.inputs.first_states_are_lawful.Goals as goal

pub returns-clause-lawful : goal.returns-clause-lawful
returns-clause-lawful c = inputs_lawful

pub returns-clause-registers : goal.returns-clause-registers
returns-clause-registers c = λ text sources input n random m p h. ((inputs_lawful text sources input n random m h).formed.processes p).registers.size

pub returns-clause-order : goal.returns-clause-order
returns-clause-order c = inputs_ordered
