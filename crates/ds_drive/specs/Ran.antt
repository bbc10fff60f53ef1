-- What is promised of a run that came to its end, or was left with too much, and of its trace.
use Rattle.std.specs.Prelude.{◌≡◌, ◌<◌, ◌≤◌, ⊤, ℕ, Bool, List, Option, Some, None, Result}
use Rattle.std.specs.Io.KnownBytes.{Appends}
use Rattle.ds_policy.specs.Value.{PolicyValue}
use Rattle.ds_pagemap.specs.Inputs.{Refusal, Sources, inputs, inputs_by, inputs_under}
use Rattle.ds_pagemap.specs.Machine.{State}
use Rattle.ds_pagemap.specs.Run.{Ends, Reaches}
use Rattle.ds_pagemap.specs.Text.{state_text}
use Rattle.ds_refinement.specs.Held.{Held}
use Rattle.ds_refinement.specs.Stands.{Stands}
use Rattle.ds_station.specs.Alone.{WritesEachAlone}
use Rattle.ds_station.specs.Headline.{Along, Begins, Followed, Loaded, Writes, WritesReally, loaded_with}
use Rattle.ds_station.specs.Pieces.{ComesReally, size_of_state}
use Rattle.ds_station.specs.Written.{WritesWholeGuarded}
use Rattle.ds_station.specs.declared.pieces.Extent.TheVariants.{Whole, TooMuch}
use Rattle.ds_trace.specs.Traces.{WritesTraceBy, WritesTraceReally, counts_along}
use Rattle.ds_words.specs.declared.words.Request.{Request}
use Rattle.ds_words.specs.declared.words.RunRequest.{RunRequest}
use Rattle.ds_words.specs.declared.words.TraceRequest.{TraceRequest}
use Rattle.ds_drive.specs.Demo.{demo_inputs, demo_loaded}
use Rattle.ds_drive.specs.Failures.{AreHeld}
use Rattle.ds_drive.specs.Outcomes.{IsFollowed, left, where_asked}
use Rattle.ds_drive.specs.Placed.{OfPlaced}
use Rattle.ds_trace.specs.Accounts.{account_text}
use Rattle.ds_trace.specs.Summed.{summed_text}
use Rattle.ds_words.specs.Views.{whole}
use Rattle.ds_drive.specs.declared.outcome.Outcome.{Outcome}

-- of texts that the files hold, read as the first state of a run and as what it begins with, this holds
pub record OfHeldBoth (holds : List ℕ → List ℕ → Type 0) (request : Request) (P : Result State Refusal → Result Loaded Refusal → Type 0) : Type 0 where
  pub policy : List ℕ
  pub sources : Sources
  pub input : List ℕ
  pub held : AreHeld holds request policy sources input
  pub so : P (inputs policy sources input request.most_time request.random) (inputs_by loaded_with policy sources input request.most_time request.random)

-- the first state of a run under a policy, as the words ask for the run
abbrev pub first_by : PolicyValue → Sources → List ℕ → Request → Result State Refusal
first_by policy sources input request = inputs_under policy sources input request.most_time request.random

-- what a writer held before a run, after the text of the run, and now, where that is known
pub record Writing : Type 0 where
  pub old : Option (List ℕ)
  pub between : Option (List ℕ)
  pub new : Option (List ℕ)

-- these three
abbrev pub writing : Option (List ℕ) → Option (List ℕ) → Option (List ℕ) → Writing
writing old between new = record { old = old; between = between; new = new }

-- consoles and log have no more bytes than these, where there is such a bound
abbrev pub IsWithin : Option ℕ → State → Type 0
IsWithin None m = ⊤
IsWithin (Some most) m = size_of_state m ≤ most

-- what is told of a run for n that came by these choices to where the station is: with what was counted of all its turns; under a bound of bytes no turn is counted
abbrev pub run_told : Option ℕ → ℕ → List Bool → Held → State → List ℕ
run_told None n choices h first = summed_text n first.characters (counts_along whole n choices first) h
run_told (Some most) n choices h first = account_text n h

-- the summary of such a run, if the words want one
abbrev pub run_summary : RunRequest → List Bool → Held → State → List ℕ
run_summary request choices h first = where_asked request.extras.summary (run_told request.most request.run.most_time choices h first)

-- of a trace, with what was counted of the turns that the words want
abbrev pub trace_summary : TraceRequest → List Bool → Held → State → List ℕ
trace_summary request choices h first = where_asked request.extras.summary (summed_text request.run.most_time first.characters (counts_along request.view request.run.most_time choices first) h)

-- a run has ended in a state that a station stands for, with no more bytes than the words allow; its text is written, and then what the words want of that state
pub record EndsThen (request : RunRequest) (o : Outcome) (w : Writing) (first : State) : Type 0 where
  pub station : Held
  pub last : State
  pub ends : Ends request.run.most_time first last
  pub few : IsWithin request.most last
  pub stands : Stands station last
  pub written : Appends w.old w.between (state_text last)
  pub followed : IsFollowed request.extras (run_summary request ends.reached.choices station first) o w.between w.new (left Whole station last)

-- a run was left between two turns in a state with more bytes than these, for which the station stands; its text so far is written, and then what the words want of that state
pub record LeavesThen (most : ℕ) (station : Held) (request : RunRequest) (o : Outcome) (w : Writing) (first : State) : Type 0 where
  pub last : State
  pub reached : Reaches request.run.most_time first last
  pub whole : last.owed ≡ None
  pub much : most < size_of_state last
  pub stands : Stands station last
  pub written : Appends w.old w.between (state_text last)
  pub followed : IsFollowed request.extras (run_summary request reached.choices station first) o w.between w.new (left TooMuch station last)

-- a run has ended: what the machine did, what the processor did, and that the machine follows it; under a bound of bytes the former of these two is not told
pub record HasEnded (request : RunRequest) (o : Outcome) (w : Writing) (read : Result State Refusal) (begun : Result Loaded Refusal) : Type 0 where
  pub ends : Begins read (EndsThen request o w)
  pub real : request.most ≡ None → Begins begun (WritesReally Along w.old w.between request.run.most_time request.run.random)
  pub followed : Begins begun (WritesReally Followed w.old w.between request.run.most_time request.run.random)

-- a run was left with more bytes than the words allow: what the machine did, and what the processor did
pub record HasLeft (request : RunRequest) (o : Outcome) (w : Writing) (read : Result State Refusal) (begun : Result Loaded Refusal) : Type 0 where
  pub most : ℕ
  pub bound : request.most ≡ Some most
  pub station : Held
  pub leaves : Begins read (LeavesThen most station request o w)
  pub real : Begins begun (ComesReally TooMuch request.run.most_time most request.run.random station)

-- a run has ended; it was guarded, and its text shows of each process that is alone in the first state what it does alone
pub record IsRun (request : RunRequest) (o : Outcome) (old new : Option (List ℕ)) (read : Result State Refusal) (begun : Result Loaded Refusal) : Type 0 where
  pub between : Option (List ℕ)
  pub ended : HasEnded request o (writing old between new) read begun
  pub guarded : Begins read (WritesWholeGuarded old between request.run.most_time)
  pub alone : WritesEachAlone old between read

-- a run was left
pub record IsLeft (request : RunRequest) (o : Outcome) (old new : Option (List ℕ)) (read : Result State Refusal) (begun : Result Loaded Refusal) : Type 0 where
  pub between : Option (List ℕ)
  pub left : HasLeft request o (writing old between new) read begun

-- the files were run
abbrev pub HasRunFiles : (List ℕ → List ℕ → Type 0) → RunRequest → Outcome → Option (List ℕ) → Option (List ℕ) → Type 0
HasRunFiles holds request o old new = OfHeldBoth holds request.run (λ read begun. IsRun request o old new read begun)

-- they were run, and their run was left
abbrev pub HasLeftFiles : (List ℕ → List ℕ → Type 0) → RunRequest → Outcome → Option (List ℕ) → Option (List ℕ) → Type 0
HasLeftFiles holds request o old new = OfHeldBoth holds request.run (λ read begun. IsLeft request o old new read begun)

-- of the demonstration
pub record HasRunDemo (old new : Option (List ℕ)) : Type 0 where
  pub runs : Begins demo_inputs (Writes old new 100)
  pub real : Begins demo_loaded (WritesReally Along old new 100 63)
  pub followed : Begins demo_loaded (WritesReally Followed old new 100 63)
  pub guarded : Begins demo_inputs (WritesWholeGuarded old new 100)
  pub alone : WritesEachAlone old new demo_inputs

-- of the trace of a run that has ended the lines that the words want are written, and the text of the run, and then what the words want of its last state
pub record TracesThen (request : TraceRequest) (o : Outcome) (w : Writing) (first : State) : Type 0 where
  pub station : Held
  pub by : WritesTraceBy request.view station w.old w.between request.run.most_time first
  pub followed : IsFollowed request.extras (trace_summary request by.ends.reached.choices station first) o w.between w.new (left Whole station by.last)

-- a trace: its lines and what follows, and what the processor did, told of the steps of a station that began with what was read
pub record IsTraced (request : TraceRequest) (o : Outcome) (old new : Option (List ℕ)) (read : Result State Refusal) (begun : Result Loaded Refusal) : Type 0 where
  pub between : Option (List ℕ)
  pub traces : Begins read (TracesThen request o (writing old between new))
  pub real : Begins begun (WritesTraceReally request.view old between request.run.most_time request.run.random)

-- the files were traced, with the lines of their sources where the words want these
abbrev pub HasTracedFiles : (List ℕ → List ℕ → Type 0) → TraceRequest → Outcome → Option (List ℕ) → Option (List ℕ) → Type 0
HasTracedFiles holds request o old new = OfHeldBoth holds request.run (λ read begun. OfPlaced holds request (λ told. IsTraced told o old new read begun))
