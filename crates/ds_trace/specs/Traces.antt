-- The trace of a run, and what is written of it.
use Rattle.std.specs.Prelude.{◌≡◌, ◌⊎◌, ⊤, ℕ, Bool, true, if◌then◌else◌, List, [], ◌∷◌, ◌++◌, Option, Result}
use Rattle.std.specs.Io.KnownBytes.{Appends, Keeps}
use Rattle.ds_text.specs.Sent.{AppendsPart}
use Rattle.ds_pagemap.specs.Machine.{State}
use Rattle.ds_pagemap.specs.First.{first_state}
use Rattle.ds_pagemap.specs.Run.{half_turn, goes_on, after, Reaches, Ends, IsPrefix}
use Rattle.ds_pagemap.specs.Text.{state_text}
use Rattle.ds_pagemap.specs.Inputs.{Refusal}
use Rattle.ds_refinement.specs.Held.{Held}
use Rattle.ds_refinement.specs.Stands.{Stands}
use Rattle.ds_station.specs.Headline.{Begins, BeginsWith, Loaded, Refuses}
use Rattle.ds_station.specs.declared.fault.Fault.{Fault}
use Rattle.ds_station.specs.declared.fault.Fault.TheVariants as fault
use Rattle.ds_words.specs.declared.view.View.{View}
use Rattle.ds_trace.specs.Counts.{Counted, none_counted}
use Rattle.ds_trace.specs.Halves.{half_counts, half_text}
use Rattle.ds_trace.specs.Ends.{end_text}
use Rattle.ds_trace.specs.Processors.{TellsFrom, TellsProcessor}

-- the counts after the next half turn of a run for n, if the run goes on
abbrev pub next_counts : View → ℕ → Bool → State → Counted → Counted
next_counts v n touch m k = if goes_on n m then half_counts v k m (half_turn touch m) else k

-- those of a run for n by these choices
unfoldable pub counts_along : View → ℕ → List Bool → State → Counted
counts_along v n [] m = none_counted
counts_along v n (touch ∷ earlier) m = next_counts v n touch (after n earlier m) (counts_along v n earlier m)

-- the lines of the next half turn of a run for n with these counts, if the run goes on
abbrev pub next_text : View → ℕ → Bool → State → Counted → List ℕ
next_text v n touch m k = if goes_on n m then half_text v k m (half_turn touch m) else []

-- the lines of a run for n by these choices, the newest half turn last
unfoldable pub trace_along : View → ℕ → List Bool → State → List ℕ
trace_along v n [] m = []
trace_along v n (touch ∷ earlier) m = trace_along v n earlier m ++ next_text v n touch (after n earlier m) (counts_along v n earlier m)

-- the lines of the way to a state, what the processor did, and that state's end with the counts of the way
abbrev pub told_to : View → (n : ℕ) (m t : State) → Reaches n m t → List ℕ → List ℕ
told_to v n m t r processor = trace_along v n r.choices m ++ processor ++ end_text v (counts_along v n r.choices m) t

-- A run for n from the first state has ended: its trace is written, with what is told of the processor, and then its text.
pub record WritesTold (v : View) (old new : Option (List ℕ)) (n : ℕ) (first : State) (Tells : State → List ℕ → Type 0) : Type 0 where
  pub last : State
  pub ends : Ends n first last
  pub processor : List ℕ
  pub processed : Tells last processor
  pub between : Option (List ℕ)
  pub trace : Appends old between (told_to v n first last ends.reached processor)
  pub written : Appends between new (state_text last)

-- A prefix of both is written, of a run that has come somewhere.
pub record WritesToldPart (v : View) (old new : Option (List ℕ)) (n : ℕ) (first : State) (Tells : State → List ℕ → Type 0) : Type 0 where
  pub last : State
  pub reached : Reaches n first last
  pub processor : List ℕ
  pub processed : Tells last processor
  pub written : AppendsPart old new (told_to v n first last reached processor ++ state_text last)

-- A run was cut short between two turns, where a turn was still to come: its trace so far is written, and then its text so far.
pub record WritesToldSoFar (v : View) (old new : Option (List ℕ)) (n : ℕ) (first : State) (Tells : State → List ℕ → Type 0) : Type 0 where
  pub last : State
  pub prefix : IsPrefix n first last
  pub going : goes_on n last ≡ true
  pub processor : List ℕ
  pub processed : Tells last processor
  pub between : Option (List ℕ)
  pub trace : Appends old between (told_to v n first last prefix.reached processor)
  pub written : Appends between new (state_text last)

-- A prefix of the lines of a run that has come somewhere is written, and of what comes after the lines nothing.
pub record WritesLines (v : View) (old new : Option (List ℕ)) (n : ℕ) (first : State) (Tells : State → List ℕ → Type 0) : Type 0 where
  pub last : State
  pub reached : Reaches n first last
  pub processor : List ℕ
  pub processed : Tells last processor
  pub written : AppendsPart old new (trace_along v n reached.choices first)

-- what is written where memory runs out: for the run, or for its trace
abbrev pub WritesShort : View → Option (List ℕ) → Option (List ℕ) → ℕ → State → (State → List ℕ → Type 0) → Type 0
WritesShort v old new n first Tells = WritesToldSoFar v old new n first Tells ⊎ WritesLines v old new n first Tells

-- what is told of the processor is of a run of some station from the first state
abbrev pub WritesTrace : View → Option (List ℕ) → Option (List ℕ) → ℕ → State → Type 0
WritesTrace v old new n first = WritesTold v old new n first (TellsProcessor v n first)

-- so of a run to a state that this station stands for
abbrev pub WritesTraceBy : View → Held → Option (List ℕ) → Option (List ℕ) → ℕ → State → Type 0
WritesTraceBy v h old new n first = WritesTold v old new n first (λ last lines. TellsProcessor v n first last lines × Stands h last)

-- the same of a prefix
abbrev pub WritesTracePart : View → Option (List ℕ) → Option (List ℕ) → ℕ → State → Type 0
WritesTracePart v old new n first = WritesToldPart v old new n first (TellsProcessor v n first)

-- the same where memory runs out
abbrev pub WritesTraceShort : View → Option (List ℕ) → Option (List ℕ) → ℕ → State → Type 0
WritesTraceShort v old new n first = WritesShort v old new n first (TellsProcessor v n first)

-- when each fault comes, and what is written then: nothing where it refuses the inputs
abbrev pub TraceEndsBy : Fault → View → Result State Refusal → Option (List ℕ) → Option (List ℕ) → ℕ → Type 0
TraceEndsBy fault.Memory v read old new n = Keeps old new ⊎ Begins read (WritesTraceShort v old new n)
TraceEndsBy fault.Stuck v read old new n = ⊥
TraceEndsBy fault.WriteFault v read old new n = Begins read (WritesTracePart v old new n)
TraceEndsBy fault.Failed v read old new n = ⊥
TraceEndsBy f v read old new n = Refuses f read × Keeps old new

-- What the processor did in the run that was asked for.

-- a station began with these, Random at the start, and of its run from their first state this is written
pub record WritesOf (start : ℕ) (l : Loaded) (Written : Held → State → Type 0) : Type 0 where
  pub first : Held
  pub begins : BeginsWith start first l
  pub written : Written first (first_state l.policy l.images l.input)

-- its trace, with what the processor did in the run of that station, and its text
abbrev pub WritesTraceReally : View → Option (List ℕ) → Option (List ℕ) → ℕ → ℕ → Loaded → Type 0
WritesTraceReally v old new n start l = WritesOf start l (λ h m. WritesTold v old new n m (TellsFrom v n h m))

-- a prefix of both
abbrev pub WritesTracePartReally : View → Option (List ℕ) → Option (List ℕ) → ℕ → ℕ → Loaded → Type 0
WritesTracePartReally v old new n start l = WritesOf start l (λ h m. WritesToldPart v old new n m (TellsFrom v n h m))

-- what is written where memory runs out
abbrev pub WritesTraceShortReally : View → Option (List ℕ) → Option (List ℕ) → ℕ → ℕ → Loaded → Type 0
WritesTraceShortReally v old new n start l = WritesOf start l (λ h m. WritesShort v old new n m (TellsFrom v n h m))

-- what the processor did where each fault comes: nothing that is told where the inputs are refused
abbrev pub TraceEndsReally : Fault → View → Result Loaded Refusal → Option (List ℕ) → Option (List ℕ) → ℕ → ℕ → Type 0
TraceEndsReally fault.Memory v read old new n start = Keeps old new ⊎ Begins read (WritesTraceShortReally v old new n start)
TraceEndsReally fault.WriteFault v read old new n start = Begins read (WritesTracePartReally v old new n start)
TraceEndsReally f v read old new n start = ⊤
