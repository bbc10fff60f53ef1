use Rattle.ds_pagemap.proofs.Growth.{reaches_log}
use Rattle.ds_pagemap.proofs.laws.runs.a_log_only_grows.Goals as goal

pub returns : goal.returns
returns c = reaches_log
