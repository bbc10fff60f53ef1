use Rattle.ds_pagemap_laws.proofs.LawfulCalls.{served_lawful}
use Rattle.ds_pagemap_laws.proofs.lawful.calls_keep_states_lawful.Goals as goal

pub returns : goal.returns
returns c = served_lawful
