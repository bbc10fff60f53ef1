use Rattle.ds_pagemap_laws.proofs.Ends.{after_ends}
use Rattle.ds_pagemap_laws.proofs.LawfulBoundaries.{expired_lawful}
use Rattle.ds_pagemap_laws.proofs.endings.what_has_ended_is_gone.Goals as goal

pub returns-clause-ends : goal.returns-clause-ends
returns-clause-ends c = after_ends

pub returns-clause-lawful : goal.returns-clause-lawful
returns-clause-lawful c = expired_lawful
