-- Sets of processes.
use Rattle.std.specs.Prelude.{ℕ, Bool, true, false, List, replicate, slice_index_or, slice_set}
use Rattle.std.specs.List.{fold}
use Rattle.ds_words.specs.declared.processes.Processes.{Processes}

-- no process
abbrev pub no_processes : Processes
no_processes = record { marks = replicate 101 false }

-- these processes, and the one of a number; where no process can have it, these
abbrev pub joined_process : Processes → ℕ → Processes
joined_process s p = record { marks = slice_set s.marks p true }

-- the processes of these numbers
abbrev pub processes_numbered : List ℕ → Processes
processes_numbered numbers = fold joined_process no_processes numbers

-- whether a process is in the set
abbrev pub has_process : Processes → ℕ → Bool
has_process s p = slice_index_or s.marks p false
