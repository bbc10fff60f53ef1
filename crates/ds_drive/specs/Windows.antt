-- The words of memory that are written after the text of a run.
use Rattle.std.specs.Prelude.{ℕ, nat_le, nat_lt, if◌then◌else◌, List, [], ◌∷◌, flat_map, length, Option, Some, None}
use Rattle.ds_pagemap.specs.Machine.{State}
use Rattle.ds_policy.specs.Grants.{PageState}
use Rattle.ds_trace.specs.Memory.{memory_text}
use Rattle.ds_words.specs.declared.windows.Window.{Window}

-- the first process that a window names and that is not among so many
abbrev pub lacking_of : ℕ → List Window → Option ℕ
lacking_of n [] = None
lacking_of n (w ∷ windows) = if nat_lt n w.process then Some w.process else lacking_of n windows

-- the lines of a window, of the memory of so many processes; of a process that is not there, none
abbrev pub window_lines : ℕ → PageState → Window → List ℕ
window_lines n s w = if nat_le w.process n then memory_text s w.process w.address w.count else []

-- those of windows, in their order
abbrev pub window_lines_in : ℕ → PageState → List Window → List ℕ
window_lines_in n s windows = flat_map (window_lines n s) windows

-- those of windows of a state
abbrev pub windows_text : State → List Window → List ℕ
windows_text m windows = window_lines_in (length m.processes) m.memory windows
