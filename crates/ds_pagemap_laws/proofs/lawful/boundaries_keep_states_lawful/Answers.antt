use Rattle.ds_pagemap_laws.proofs.LawfulBoundaries.{boundary_lawful}
use Rattle.ds_pagemap_laws.proofs.lawful.boundaries_keep_states_lawful.Goals as goal

pub returns : goal.returns
returns c = boundary_lawful
