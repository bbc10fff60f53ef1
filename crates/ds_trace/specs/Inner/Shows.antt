-- The lines and the end of a trace, by what a station holds.
use Rattle.std.specs.Prelude.{◌≡◌, ⊤, ℕ, zero, suc, ◌+◌, Bool, false, true, if◌then◌else◌, List, [], ◌++◌, length, map, is_some, Option, Some, None}
use Rattle.std.specs.Io.KnownBytes.{Appends}
use Rattle.ds_listing.specs.declared.names.RegisterNames.{RegisterNames}
use Rattle.ds_pagemap.specs.Machine.{State, process_of, first, touched}
use Rattle.ds_pagemap.specs.Run.{after}
use Rattle.ds_refinement.specs.Held.{Held, last_boundary}
use Rattle.ds_refinement.specs.Stands.{Stands}
use Rattle.ds_refinement.specs.Runs.{held_goes_on}
use Rattle.ds_station.specs.declared.fault.Fault.{Fault}
use Rattle.ds_station.specs.declared.fault.Fault.TheVariants as fault
use Rattle.ds_station.specs.Inner.Runs.{IsCut}
use Rattle.ds_station.specs.Reads.{address_held, general_held, memory_held}
use Rattle.ds_words.specs.declared.view.View.{View}
use Rattle.ds_trace.specs.declared.start.Start.{Start}
use Rattle.ds_trace.specs.Starts.{start_at}
use Rattle.ds_trace.specs.Looks.{Looked, Found}
use Rattle.ds_trace.specs.Boundaries.{due_by}
use Rattle.ds_trace.specs.Counts.{Counted, counted_after}
use Rattle.ds_trace.specs.Halves.{looked_of, process_of_start, half_after, told_table}
use Rattle.ds_trace.specs.Logs.{lines_of}
use Rattle.ds_trace.specs.Summaries.{summary_text}
use Rattle.ds_trace.specs.Ends.{process_text}
use Rattle.ds_trace.specs.declared.processor.ProcessorCounts.{ProcessorCounts}
use Rattle.ds_trace.specs.declared.progress.Progress.{Progress}
use Rattle.ds_trace.specs.Processors.{processor_text, TellsFrom}
use Rattle.ds_trace.specs.Traces.{counts_along, trace_along, WritesLines, WritesShort, WritesToldPart}
use Rattle.ds_trace.specs.Inner.Traces.{WritesToldBy}

-- the unit of a process, if there is one
abbrev pub start_held : Held → Option ℕ → Option Start
start_held h None = None
start_held h (Some p) = Some (start_at (memory_held h) (general_held h p) h.kept.state.time p (address_held h p))

-- what of a station the lines of its next half turn tell, by whether a boundary is owed
abbrev pub looked_held : View → Bool → Held → Looked
looked_held v owed h = record {
  owed = owed;
  began = last_boundary h.kept.state;
  start = if owed then None else start_held h (first h.kept.state.ready);
  logged = length h.kept.log;
  runner = first h.kept.state.ready;
  due = due_by (if owed then h.kept.state.time else h.kept.state.time + 1) h.kept.state.commands;
  characters = length h.kept.state.characters;
  queued = map length h.kept.state.queues;
  standings = map (λ q. q.standing) h.kept.state.processes;
  table = told_table v h.kept.grants.table;
}

-- what is found after it, with the registers of this process
abbrev pub found_held : ℕ → Held → Found
found_held p h = record {
  time = h.kept.state.time;
  owed = is_some h.kept.state.owed;
  runner = first h.kept.state.ready;
  log = h.kept.log;
  general = general_held h p;
  memory = memory_held h;
  characters = length h.kept.state.characters;
  queues = h.kept.state.queues;
  standings = map (λ q. q.standing) h.kept.state.processes;
}

-- the lines of a half turn, by the counts before it, what was before it and what is held after it
abbrev pub half_held : View → Counted → Looked → Held → List ℕ
half_held v k b h = half_after v k b (found_held (process_of_start b.start) h)

-- the counts after it
abbrev pub counts_held : View → Counted → Looked → Held → Counted
counts_held v k b h = counted_after v k b (found_held (process_of_start b.start) h)

-- what is looked at for the next, and the counts
abbrev pub progress_held : Bool → View → Progress → Held → Progress
progress_held owed v b h = record { before = looked_held v owed h; counts = counts_held v b.counts b.before h }

-- the lines of so many processes, the first of which has this number, by these lines of the log
abbrev pub processes_held : RegisterNames → List (List ℕ) → Held → ℕ → ℕ → List ℕ
processes_held names lines h p zero = []
processes_held names lines h p (suc n) =
    process_text names lines p (process_of h.kept.state p).standing (address_held h p) (general_held h p) ++ processes_held names lines h (p + 1) n

-- the lines of all
abbrev pub all_held : RegisterNames → Held → List ℕ
all_held names h = processes_held names (lines_of h.kept.log) h 1 (length h.kept.state.processes)

-- the end's text, with these counts
abbrev pub end_held : View → Counted → Held → List ℕ
end_held v k h = summary_text v k h.kept.state.time (lines_of h.kept.log) ++ all_held v.names h

-- these lines of where a window ended, and what the processor did, where a view wants that
abbrev pub processor_held : View → List ℕ → ProcessorCounts → Held → List ℕ
processor_held v window c h = if v.processor then window ++ processor_text c h.core.entries else []

-- A run from m for n was followed to where the station is: some of its trace is written, the rest of it is to be written.
pub record IsTold (v : View) (n : ℕ) (m : State) (h : Held) (old now : Option (List ℕ)) (rest : List ℕ) (b : Progress) : Type 0 where
  pub choices : List Bool
  pub early : Bool
  pub stands : Stands h (touched early (after n choices m))
  pub looked : b.before ≡ looked_of v (after n choices m)
  pub counted : b.counts ≡ counts_along v n choices m
  pub sent : List ℕ
  pub appends : Appends old now sent
  pub told : sent ++ rest ≡ trace_along v n choices m

-- from each machine state that the station stood for
pub record TellsSo (v : View) (n : ℕ) (from h : Held) (old now : Option (List ℕ)) (rest : List ℕ) (b : Progress) : Type 0 where
  pub tells : (m : State) → Stands from m → IsTold v n m h old now rest b

-- A run came to its end, or a fault cut it short: memory ran out between two turns, where a turn was still to come.
abbrev pub IsStopped : Option Fault → ℕ → Held → Type 0
IsStopped None n h = held_goes_on n h ≡ false
IsStopped (Some f) n h = (f ≡ fault.Memory) × (h.kept.state.owed ≡ None) × (held_goes_on n h ≡ true)

-- where a fault cut it short, it refused the next step
abbrev pub IsCutIf : Option Fault → Held → Held → Type 0
IsCutIf None from h = ⊤
IsCutIf (Some f) from h = IsCut f from h

-- it was told so far, with these counts, and no instruction of a unit is counted there
pub record TellsAll (cut : Option Fault) (v : View) (n : ℕ) (from h : Held) (old now : Option (List ℕ)) (rest : List ℕ) (k : Counted) : Type 0 where
  pub progress : Progress
  pub tells : TellsSo v n from h old now rest progress
  pub counts : progress.counts ≡ k
  pub stopped : IsStopped cut n h
  pub spent : h.own.spent ≡ 0

-- each run from there is traced to its end, a state that the station stands for, with what the processor did in this one, and counted so
pub record Traces (v : View) (n : ℕ) (from to : Held) (old new : Option (List ℕ)) (k : Counted) : Type 0 where
  pub traces : (m : State) → Stands from m → WritesToldBy v old new n m (λ last lines. TellsFrom v n from m last lines × Stands to last) k

-- or a prefix of what is told of it is written
pub record TracesPart (v : View) (n : ℕ) (from : Held) (old new : Option (List ℕ)) : Type 0 where
  pub traces : (m : State) → Stands from m → WritesToldPart v old new n m (TellsFrom v n from m)

-- what is written of each where memory ran out
pub record TracesShort (v : View) (n : ℕ) (from : Held) (old new : Option (List ℕ)) : Type 0 where
  pub traces : (m : State) → Stands from m → WritesShort v old new n m (TellsFrom v n from m)

-- where that was while it was followed: a prefix of its lines
pub record TracesLines (v : View) (n : ℕ) (from : Held) (old new : Option (List ℕ)) : Type 0 where
  pub traces : (m : State) → Stands from m → WritesLines v old new n m (TellsFrom v n from m)
