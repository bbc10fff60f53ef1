use Rattle.ds_pagemap.proofs.Growth.{reaches_time}
use Rattle.ds_pagemap.proofs.laws.runs.a_run_is_at_most_a_tick_late.Goals as goal

pub returns : goal.returns
returns c = reaches_time
