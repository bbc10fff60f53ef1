-- Who has ended.
use Rattle.std.specs.Prelude.{◌≡◌, ℕ, ◌-◌, Bool, true, false, List, map, slice_set}
use Rattle.ds_procs.specs.declared.call.Call.{Call}
use Rattle.ds_procs.specs.declared.call.Call.TheVariants as call
use Rattle.ds_pagemap.specs.Machine.{State, Process, process_of, has_ended}

-- of each process, whether it has ended
abbrev pub marks_of : State → List Bool
marks_of m = map (λ (q : Process). has_ended q.standing) m.processes

-- a process that hasn't ended
abbrev pub IsAlive : State → ℕ → Type 0
IsAlive m p = has_ended (process_of m p).standing ≡ false

-- who has ended after a call of a process
abbrev pub ended_after : Call → ℕ → List Bool → List Bool
ended_after call.Exit p ended = slice_set ended (p - 1) true
ended_after other p ended = ended
