-- What is written where a log is explained.
use Rattle.std.specs.Prelude.{ℕ, List, Option, Result}
use Rattle.std.specs.Io.KnownBytes.{Keeps}
use Rattle.ds_pagemap.specs.Inputs.{Refusal}
use Rattle.ds_pagemap.specs.Machine.{State}
use Rattle.ds_station.specs.Headline.{Begins, Refuses}
use Rattle.ds_station.specs.declared.fault.Fault.{Fault}
use Rattle.ds_station.specs.declared.fault.Fault.TheVariants as fault
use Rattle.ds_explain.specs.declared.chosen.Chosen.{Chosen}
use Rattle.ds_log_reasons.specs.Sentences.{Context}
use Rattle.ds_explain.specs.Explained.{WritesExplainedPart}

-- when each fault comes, and what is written then: nothing where it refuses the inputs, or memory runs out
abbrev pub ExplainEndsBy : Fault → Context → Chosen → Result State Refusal → Option (List ℕ) → Option (List ℕ) → ℕ → Type 0
ExplainEndsBy fault.WriteFault x c read old new n = Begins read (WritesExplainedPart x c old new n)
ExplainEndsBy f x c read old new n = Refuses f read × Keeps old new
