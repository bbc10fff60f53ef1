-- Where a run ends for a debugger: before the exit of the last process, since one that has ended has no memory to look at.
use Rattle.std.specs.Prelude.{ℕ, zero, suc, ◌+◌, ◌%◌, ◌==◌, ◌&&◌, ◌||◌, Bool, true, false, nat_lt, length, slice_index, Option, Some, None}
use Rattle.ds_pagemap.specs.Machine.{first, has_ended, process_of}
use Rattle.ds_refinement.specs.Held.{Held}
use Rattle.ds_station.specs.Reads.{address_held, fetched, general_held, memory_held}

-- a word is `syscall`, if there is one
abbrev pub is_syscall : Option ℕ → Bool
is_syscall None = false
is_syscall (Some w) = nat_lt w 0x4000000 && (w % 64 == 12)

-- a process stands at a call of exit, which has 0 in register 2
abbrev pub stands_at_exit : Held → ℕ → Bool
stands_at_exit h p = is_syscall (fetched (memory_held h) p (address_held h p)) && (slice_index (general_held h p) 2 == 0)

-- the process after so many others is this one, or has ended
abbrev pub is_out : Held → ℕ → ℕ → Bool
is_out h p i = (i + 1 == p) || has_ended (process_of h.kept.state (i + 1)).standing

-- so is each of so many, the first of which comes after so many others
unfoldable pub others_from : Held → ℕ → ℕ → ℕ → Bool
others_from h p i zero = true
others_from h p i (suc n) = is_out h p i && others_from h p (i + 1) n

-- all processes but this one have ended
abbrev pub others_ended : Held → ℕ → Bool
others_ended h p = others_from h p 0 (length h.kept.state.processes)

-- the one that runs stands at its exit, and is the last
abbrev pub exits_by : Option ℕ → Held → Bool
exits_by None h = false
exits_by (Some p) h = stands_at_exit h p && others_ended h p

-- the next unit would be the exit of the last process
abbrev pub exits_next : Held → Bool
exits_next h = exits_by (first h.kept.state.ready) h
