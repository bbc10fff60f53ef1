-- What a run came to: the first process that has not ended, and the station of a run whose text is written.
use Rattle.std.specs.Prelude.{ℕ, zero, suc, ◌+◌, if◌then◌else◌, length, Option, Some, None}
use Rattle.ds_pagemap.specs.Machine.{State, has_ended, process_of}
use Rattle.ds_station.specs.declared.outcome.Unended.{Unended}

-- the first of so many processes, the first of which has this number, that has not ended
abbrev pub unended_from : State → ℕ → ℕ → Option Unended
unended_from m p zero = None
unended_from m p (suc n) =
    if has_ended (process_of m p).standing then unended_from m (p + 1) n else Some (record { process = p; standing = (process_of m p).standing })

-- the first of all that has not ended
abbrev pub first_unended : State → Option Unended
first_unended m = unended_from m 1 (length m.processes)
