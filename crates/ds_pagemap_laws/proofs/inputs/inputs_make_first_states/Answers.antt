use Rattle.ds_pagemap_laws.proofs.FirstStates.{made_further, inputs_made}
use Rattle.ds_pagemap_laws.proofs.inputs.inputs_make_first_states.Goals as goal

pub returns-clause-first : goal.returns-clause-first
returns-clause-first c = inputs_made

pub returns-clause-further : goal.returns-clause-further
returns-clause-further c = made_further
