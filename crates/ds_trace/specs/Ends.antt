-- The end of a trace: what is told of the whole run, and how each process stands, with its registers.
use Rattle.std.specs.Prelude.{codes, decimal, ℕ, ◌+◌, ◌==◌, ◌||◌, if◌then◌else◌, List, [], ◌∷◌, ◌++◌, Option, Some, None}
use Rattle.ds_listing.specs.declared.names.RegisterNames.{RegisterNames}
use Rattle.ds_listing.specs.NamedTexts.{register_as}
use Rattle.ds_text.specs.Digits.{hex8}
use Rattle.ds_procs.specs.declared.process.Standing.{Standing}
use Rattle.ds_procs.specs.declared.process.Standing.TheVariants.{Parked}
use Rattle.ds_pagemap.specs.Machine.{State, Process}
use Rattle.ds_words.specs.declared.view.View.{View}
use Rattle.ds_trace.specs.Changes.{standing_text}
use Rattle.ds_trace.specs.Counts.{Counted}
use Rattle.ds_trace.specs.Halves.{log_of}
use Rattle.ds_trace.specs.Lines.{is_hidden}
use Rattle.ds_trace.specs.Logs.{last_of, lines_of}
use Rattle.ds_trace.specs.Summaries.{summary_text}

-- a register of a process at the end: none that a touch may change, and none that holds 0
abbrev pub register_left_text : RegisterNames → ℕ → ℕ → List ℕ
register_left_text names n value = if is_hidden n || (value == 0) then [] else codes "  " ++ register_as names n ++ codes "=" ++ hex8 value

-- the registers of a list, the first of which has this number
abbrev pub registers_text : RegisterNames → ℕ → List ℕ → List ℕ
registers_text names n [] = []
registers_text names n (value ∷ rest) = register_left_text names n value ++ registers_text names (n + 1) rest

-- a line of the log, where there is one
abbrev pub line_by : Option (List ℕ) → List ℕ
line_by None = []
line_by (Some line) = codes " by " ++ line

-- by which line of the log a process is parked, where it is
abbrev pub parked_text : List (List ℕ) → ℕ → Standing → List ℕ
parked_text lines p Parked = line_by (last_of p lines)
parked_text lines p other = []

-- the line of a process: its number, how it stands, where it goes on, by which of these lines it is parked, and its registers
abbrev pub process_text : RegisterNames → List (List ℕ) → ℕ → Standing → ℕ → List ℕ → List ℕ
process_text names lines p standing pc general =
    (codes "process " ++ decimal p ++ codes " " ++ standing_text standing ++ codes " " ++ hex8 pc) ++ parked_text lines p standing ++ (registers_text names 0 general ++ codes "\n")

-- those of processes, the first of which has this number
abbrev pub processes_text : RegisterNames → List (List ℕ) → ℕ → List Process → List ℕ
processes_text names lines p [] = []
processes_text names lines p (q ∷ rest) = process_text names lines p q.standing q.pc q.registers.general ++ processes_text names lines (p + 1) rest

-- the end's text of a state, with these counts of the run to it
abbrev pub end_text : View → Counted → State → List ℕ
end_text v k m = summary_text v k m.time (lines_of (log_of m)) ++ processes_text v.names (lines_of (log_of m)) 1 m.processes
