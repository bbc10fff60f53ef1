-- What is done to a state without a look at its pages, its table and its log.
use Rattle.std.specs.Prelude.{◌≡◌, List}
use Rattle.ds_policy.specs.Grants.{PageState}
use Rattle.ds_log.specs.declared.line.Line.{Line}
use Rattle.ds_pagemap.specs.Machine.{State}

-- f reads neither pages, nor table, nor log, and leaves them
abbrev pub IsBlind : (State → State) → Type 0
IsBlind f = (m : State) (memory : PageState) (log : List Line)
    → f (record m { memory = memory; log = log }) ≡ record (f m) { memory = memory; log = log }
