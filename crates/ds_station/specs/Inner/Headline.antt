-- What a run over files answers, and what it writes.
use Rattle.std.specs.Prelude.{◌≡◌, Result, Ok, Err}
use Rattle.ds_pagemap.specs.Inputs.{Refusal}
use Rattle.ds_station.specs.declared.fault.Fault.{Fault}
use Rattle.ds_station.specs.Headline.{Refuses}

-- a value that is returned is, through `seen`, the one that was read; a fault is why there is none
abbrev pub Reads : {X Y : Type 0} → (X → Y) → Result X Fault → Result Y Refusal → Type 0
Reads seen (Ok x) read = read ≡ Ok (seen x)
Reads seen (Err f) read = Refuses f read
