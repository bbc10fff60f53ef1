-- What a run over files answers, and what it writes.
use Rattle.std.specs.Prelude.{◌≡◌, ℕ, ⊤, ◌⊎◌, true, false, List, map, Option, Result, Ok, Err, IsErrAnd}
use Rattle.std.proofs.Common.{Bor}
use Rattle.std.specs.Io.KnownBytes.{Appends, Keeps}
use Rattle.ds_policy.specs.Value.{PolicyValue, InputValue}
use Rattle.ds_log.specs.Report.{report_text}
use Rattle.ds_text.specs.Sent.{AppendsPart}
use Rattle.ds_pagemap.specs.Machine.{State}
use Rattle.ds_pagemap.specs.First.{first_state}
use Rattle.ds_pagemap.specs.Run.{Ends, IsPrefix, goes_on}
use Rattle.ds_pagemap.specs.Text.{state_text}
use Rattle.ds_pagemap.specs.Inputs.{Refusal, Sources}
use Rattle.ds_pagemap.specs.Inputs as inputs
use Rattle.ds_refinement.specs.Held.{Held}
use Rattle.ds_refinement.specs.First.{IsFirst}
use Rattle.ds_refinement.specs.Real.{RealPath}
use Rattle.ds_refinement.specs.Runs.{held_goes_on}
use Rattle.ds_station.specs.Along.{RunsAlong}
use Rattle.ds_station.specs.Faults.{RefusesStep}
use Rattle.ds_station.specs.declared.fault.Fault.{Fault}
use Rattle.ds_station.specs.declared.fault.Fault.TheVariants as fault

-- each source's name and text
abbrev pub sources_seen : List (Bor (List ℕ) × Bor (List ℕ)) → Sources
sources_seen sources = map (λ s. (s.0.now, s.1.now)) sources

-- the text of what a station holds
abbrev pub held_text : Held → List ℕ
held_text h = report_text h.kept.state.consoles h.kept.lines h.kept.log h.kept.state.time

-- a run for n from the first state has ended, and its text is written
pub record Writes (old new : Option (List ℕ)) (n : ℕ) (first : State) : Type 0 where
  pub last : State
  pub ends : Ends n first last
  pub written : Appends old new (state_text last)

-- a run was cut short between two turns, where a turn was still to come, and the text so far is written
pub record WritesPrefix (old new : Option (List ℕ)) (n : ℕ) (first : State) : Type 0 where
  pub last : State
  pub prefix : IsPrefix n first last
  pub going : goes_on n last ≡ true
  pub written : Appends old new (state_text last)

-- a prefix of the text is written, of a run that has ended or was cut short between two turns
pub record WritesPart (old new : Option (List ℕ)) (n : ℕ) (first : State) : Type 0 where
  pub last : State
  pub prefix : IsPrefix n first last
  pub written : AppendsPart old new (state_text last)

-- the fault is what refuses the inputs; want of memory refuses any
abbrev pub Refuses : {Y : Type 0} → Fault → Result Y Refusal → Type 0
Refuses fault.BadToml read = read ≡ Err inputs.BadToml
Refuses (fault.Limit key) read = read ≡ Err (inputs.Limit key.now)
Refuses (fault.BadRule number) read = read ≡ Err (inputs.BadRule number)
Refuses (fault.NoSource name) read = read ≡ Err (inputs.NoSource name)
Refuses (fault.InSource name f) read = read ≡ Err (inputs.InSource name f)
Refuses (fault.InputFault line) read = read ≡ Err (inputs.InputFault line)
Refuses fault.BadRandom read = read ≡ Err inputs.BadRandom
Refuses fault.Memory read = Unit {0}
Refuses fault.Stuck read = ⊥
Refuses fault.Failed read = ⊥
Refuses fault.WriteFault read = ⊥

-- the inputs were read to a value of which this holds, as the first state of a run and what was written of it
abbrev pub Begins : {X : Type 0} → Result X Refusal → (X → Type 0) → Type 0
Begins {X} read P = (x : X) × (read ≡ Ok x) × P x

-- when each fault comes, and what is written then: nothing where it refuses the inputs
abbrev pub EndsBy : Fault → Result State Refusal → Option (List ℕ) → Option (List ℕ) → ℕ → Type 0
EndsBy fault.Memory read old new n = Keeps old new ⊎ Begins read (WritesPrefix old new n)
EndsBy fault.Stuck read old new n = ⊥
EndsBy fault.WriteFault read old new n = Begins read (WritesPart old new n)
EndsBy fault.Failed read old new n = ⊥
EndsBy f read old new n = Refuses f read × Keeps old new

-- inputs that are refused are refused by that, or for want of memory, and nothing is written
abbrev pub IsRefused : {T : Type 0} → Result T Fault → Refusal → Option (List ℕ) → Option (List ℕ) → Type 0
IsRefused result refusal old new = let read : Result State Refusal = Err refusal in IsErrAnd result (λ f. Refuses f read) × Keeps old new

-- What the processor does in a run.

-- what a run begins with: a policy, the images of its sources, an input
pub record Loaded : Type 0 where
  pub policy : PolicyValue
  pub images : List (List ℕ)
  pub input : InputValue

-- these three, as they were read
abbrev pub loaded_with : PolicyValue → List (List ℕ) → InputValue → Loaded
loaded_with policy images input = record { policy = policy; images = images; input = input }

-- a station is at the beginning of a run with these, and Random is the start
abbrev pub BeginsWith : ℕ → Held → Loaded → Type 0
BeginsWith start h l = IsFirst l.policy l.images l.input start h

-- real steps from the one to the other, and along them a run of the machine from the first state of these
abbrev pub Along : Loaded → Held → Held → Type 0
Along l = RunsAlong (first_state l.policy l.images l.input)

-- real steps, each of which the machine follows with its counts from every state that the station stands for
abbrev pub Followed : Loaded → Held → Held → Type 0
Followed l = RealPath

-- a station that began with these came by such a path to where a run for n is over, and its text is written
pub record WritesReally (Path : Loaded → Held → Held → Type 0) (old new : Option (List ℕ)) (n start : ℕ) (l : Loaded) : Type 0 where
  pub first : Held
  pub begins : BeginsWith start first l
  pub last : Held
  pub path : Path l first last
  pub over : held_goes_on n last ≡ false
  pub written : Appends old new (held_text last)

-- the same of a run that was cut short: it was not over, this fault refused the next step, and the text so far is written
pub record WritesCut (Path : Loaded → Held → Held → Type 0) (f : Fault) (old new : Option (List ℕ)) (n start : ℕ) (l : Loaded) : Type 0 where
  pub first : Held
  pub begins : BeginsWith start first l
  pub last : Held
  pub path : Path l first last
  pub going : held_goes_on n last ≡ true
  pub refused : RefusesStep f last
  pub written : Appends old new (held_text last)

-- the same of either run, and a prefix of the text is written
pub record WritesPartReally (Path : Loaded → Held → Held → Type 0) (old new : Option (List ℕ)) (n start : ℕ) (l : Loaded) : Type 0 where
  pub first : Held
  pub begins : BeginsWith start first l
  pub last : Held
  pub path : Path l first last
  pub stopped : (held_goes_on n last ≡ false) ⊎ ((held_goes_on n last ≡ true) × (f : Fault) × RefusesStep f last)
  pub written : AppendsPart old new (held_text last)

-- what the processor did where each fault comes: nothing that is told where the inputs are refused
abbrev pub EndsReally : (Loaded → Held → Held → Type 0) → Fault → Result Loaded Refusal → Option (List ℕ) → Option (List ℕ) → ℕ → ℕ → Type 0
EndsReally Path fault.Memory read old new n start = Keeps old new ⊎ Begins read (WritesCut Path fault.Memory old new n start)
EndsReally Path fault.WriteFault read old new n start = Begins read (WritesPartReally Path old new n start)
EndsReally Path f read old new n start = ⊤
