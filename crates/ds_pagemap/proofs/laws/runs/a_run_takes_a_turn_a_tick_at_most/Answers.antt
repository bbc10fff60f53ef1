use Rattle.ds_pagemap.proofs.Turns.{reaches_in_time}
use Rattle.ds_pagemap.proofs.laws.runs.a_run_takes_a_turn_a_tick_at_most.Goals as goal

pub returns : goal.returns
returns c = reaches_in_time
