use Rattle.ds_pagemap_laws.proofs.LawfulUnits.{unit_lawful, touched_lawful}
use Rattle.ds_pagemap_laws.proofs.LawfulRuns.{reaches_lawful}
use Rattle.ds_pagemap_laws.proofs.lawful.runs_keep_states_lawful.Goals as goal

pub returns-clause-unit : goal.returns-clause-unit
returns-clause-unit c = unit_lawful

pub returns-clause-touch : goal.returns-clause-touch
returns-clause-touch c = touched_lawful

pub returns-clause-run : goal.returns-clause-run
returns-clause-run c = reaches_lawful
