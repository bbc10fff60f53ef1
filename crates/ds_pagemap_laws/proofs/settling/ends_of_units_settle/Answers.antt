use Rattle.ds_pagemap_laws.proofs.Calls.{parked_settles, after_call_settles}
use Rattle.ds_pagemap_laws.proofs.settling.ends_of_units_settle.Goals as goal

pub returns-clause-stops : goal.returns-clause-stops
returns-clause-stops c = parked_settles

pub returns-clause-calls : goal.returns-clause-calls
returns-clause-calls c = after_call_settles
