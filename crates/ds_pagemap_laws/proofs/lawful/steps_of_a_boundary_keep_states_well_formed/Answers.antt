use Rattle.ds_pagemap_laws.proofs.LawfulBoundaries.{typed_formed, woken_formed, woken_lawful, rotated_formed, rotated_lawful}
use Rattle.ds_pagemap_laws.proofs.lawful.steps_of_a_boundary_keep_states_well_formed.Goals as goal

pub returns-clause-characters : goal.returns-clause-characters
returns-clause-characters c = typed_formed

pub returns-clause-some : goal.returns-clause-some
returns-clause-some c = woken_formed

pub returns-clause-all : goal.returns-clause-all
returns-clause-all c = woken_lawful

pub returns-clause-rotated : goal.returns-clause-rotated
returns-clause-rotated c = rotated_formed

pub returns-clause-lawful : goal.returns-clause-lawful
returns-clause-lawful c = rotated_lawful
