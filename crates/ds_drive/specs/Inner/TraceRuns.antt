-- What a trace of a run of files writes, and what is left where there is none.
use Rattle.std.specs.Prelude.{◌≡◌, ◌⊎◌, ℕ, List, Option, Result}
use Rattle.std.specs.Io.KnownBytes.{Keeps}
use Rattle.ds_pagemap.specs.Inputs.{Refusal, Sources}
use Rattle.ds_pagemap.specs.Machine.{State}
use Rattle.ds_policy.specs.Value.{PolicyValue}
use Rattle.ds_station.specs.declared.fault.Fault.{Fault}
use Rattle.ds_station.specs.declared.fault.Fault.TheVariants as fault
use Rattle.ds_words.specs.declared.words.TraceRequest.{TraceRequest}
use Rattle.ds_drive.specs.Inner.Placed.{WithPlaced}
use Rattle.ds_drive.specs.TraceRuns.{TraceEndsThenBy}

-- a fault of a trace under a policy: want of memory, and nothing is written, or it comes of the trace with the lines of the sources
abbrev pub PlacedTraceEnds : PolicyValue → Sources → TraceRequest → Option (List ℕ) → Option (List ℕ) → Fault → Result State Refusal → Type 0
PlacedTraceEnds value sources request old new f read =
    ((f ≡ fault.Memory) × Keeps old new) ⊎ WithPlaced value sources request (λ told. TraceEndsThenBy f told read old new)
