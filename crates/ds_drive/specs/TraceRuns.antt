-- What a trace of a run of files writes, and what is left where there is none.
use Rattle.std.specs.Prelude.{◌≡◌, ◌⊎◌, ◌++◌, ℕ, true, List, Option, Result}
use Rattle.std.specs.Io.KnownBytes.{Keeps}
use Rattle.ds_text.specs.Sent.{AppendsPart}
use Rattle.ds_pagemap.specs.Inputs.{Refusal}
use Rattle.ds_pagemap.specs.Machine.{State}
use Rattle.ds_pagemap.specs.Run.{Reaches}
use Rattle.ds_pagemap.specs.Text.{state_text}
use Rattle.ds_station.specs.Headline.{Begins, Refuses}
use Rattle.ds_station.specs.declared.fault.Fault.{Fault}
use Rattle.ds_station.specs.declared.fault.Fault.TheVariants as fault
use Rattle.ds_trace.specs.Processors.{TellsProcessor}
use Rattle.ds_trace.specs.Traces.{TraceEndsBy, told_to}
use Rattle.ds_words.specs.Windows.{windows_in}
use Rattle.ds_words.specs.declared.words.TraceRequest.{TraceRequest}
use Rattle.ds_drive.specs.declared.failure.Failure.{Failure}
use Rattle.ds_drive.specs.Failures.{FilesStop, LacksProcess, OfHeld}
use Rattle.ds_drive.specs.Outcomes.{wants_more}
use Rattle.ds_drive.specs.Placed.{OfPlaced}
use Rattle.ds_drive.specs.Windows.{windows_text}

-- a run came somewhere, and a front of its trace, of its text and of the lines of the windows is written
pub record TracesPartThen (request : TraceRequest) (old new : Option (List ℕ)) (first : State) : Type 0 where
  pub last : State
  pub reached : Reaches request.run.most_time first last
  pub processor : List ℕ
  pub processed : TellsProcessor request.view request.run.most_time first last processor
  pub written : AppendsPart old new (told_to request.view request.run.most_time first last reached processor ++ (state_text last ++ windows_text last (windows_in request.extras.memory)))

-- this of the files
abbrev pub CutsTrace : (List ℕ → List ℕ → Type 0) → TraceRequest → Option (List ℕ) → Option (List ℕ) → Type 0
CutsTrace holds request old new = OfHeld holds request.run (λ read. OfPlaced holds request (λ told. Begins read (TracesPartThen told old new)))

-- when each fault of a trace comes, and what is written then; where the words want more, want of memory may come after the text, too
abbrev pub TraceEndsThenBy : Fault → TraceRequest → Result State Refusal → Option (List ℕ) → Option (List ℕ) → Type 0
TraceEndsThenBy fault.Memory request read old new =
    TraceEndsBy fault.Memory request.view read old new request.run.most_time ⊎ ((wants_more request.extras ≡ true) × Begins read (TracesPartThen request old new))
TraceEndsThenBy fault.WriteFault request read old new = Begins read (TracesPartThen request old new)
TraceEndsThenBy f request read old new = TraceEndsBy f request.view read old new request.run.most_time

-- a fault of a trace of files: their inputs are refused, and nothing is written, or it comes of the trace with the lines of their sources
abbrev pub FilesTraceEnds : (List ℕ → List ℕ → Type 0) → TraceRequest → Option (List ℕ) → Option (List ℕ) → Fault → Result State Refusal → Type 0
FilesTraceEnds holds request old new fault read =
    (Refuses fault read × Keeps old new) ⊎ OfPlaced holds request (λ told. TraceEndsThenBy fault told read old new)

-- why each failure of a trace comes, and what it leaves
abbrev pub TraceStopsBy : Failure → (List ℕ → List ℕ → Type 0) → (List ℕ → Type 0) → TraceRequest → Option (List ℕ) → Option (List ℕ) → Type 0
TraceStopsBy f holds lacks request old new =
    FilesStop (FilesTraceEnds holds request old new) (LacksProcess holds request.run (windows_in request.extras.memory)) f holds lacks request.run old new
