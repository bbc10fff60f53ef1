-- The state of the page-map machine.
use Rattle.std.specs.Prelude.{ℕ, ◌+◌, ◌-◌, Bool, true, false, not, ◌&&◌, nat_lt, ◌==◌, if◌then◌else◌, List, [], ◌∷◌, ◌++◌, length, filter, slice_set, slice_index_or, Option, Some, None}
use Rattle.ds_procs.specs.declared.process.Standing.{Standing}
use Rattle.ds_procs.specs.declared.process.Standing.TheVariants.{Ready, Waiting, Parked, Ended}
use Rattle.ds_log.specs.declared.line.Line.{Line}
use Rattle.ds_isa.specs.Registers.{Registers, settled, zero_registers}
use Rattle.ds_policy.specs.declared.command.TimedCommand.{TimedCommand}
use Rattle.ds_policy.specs.declared.command.Character.{Character}
use Rattle.ds_pagemap.specs.declared.turn.Turn.{Turn}
use Rattle.ds_policy.specs.Grants.{PageState}

-- a process: what it computes with, where it stands, whether it runs, and the line of its console
pub record Process : Type 0 where
  pub registers : Registers
  pub pc : ℕ
  pub standing : Standing
  pub line : ℕ

-- all that a run depends on and changes
pub record State : Type 0 where
  pub memory : PageState
  pub rate : ℕ
  -- process p is at p - 1
  pub processes : List Process
  -- the numbers of those that are ready; the first runs
  pub ready : List ℕ
  -- of each line, the characters that wait to be read and those that were written
  pub queues : List (List ℕ)
  pub consoles : List (List ℕ)
  pub log : List Line
  pub time : ℕ
  -- those not yet due
  pub commands : List TimedCommand
  pub characters : List Character
  -- the turn whose boundary is owed
  pub owed : Option Turn

-- what stands for a process that is not there
abbrev pub no_process : Process
no_process = record { registers = zero_registers; pc = 0; standing = Ended; line = 0 }

-- the process of a number, from 1
abbrev pub process_of : State → ℕ → Process
process_of m p = slice_index_or m.processes (p - 1) no_process

-- the state with another process of that number
abbrev pub with_process : State → ℕ → Process → State
with_process m p q = record m { processes = slice_set m.processes (p - 1) q }

-- whether a process has ended
abbrev pub has_ended : Standing → Bool
has_ended Ended = true
has_ended Ready = false
has_ended Waiting = false
has_ended Parked = false

-- whether it was stopped and may be resumed
abbrev pub is_parked : Standing → Bool
is_parked Parked = true
is_parked Ended = false
is_parked Ready = false
is_parked Waiting = false

-- whether it waits for a character
abbrev pub is_waiting : Standing → Bool
is_waiting Waiting = true
is_waiting Parked = false
is_waiting Ended = false
is_waiting Ready = false

-- there is such a process, and it hasn't ended
abbrev pub lives : State → ℕ → Bool
lives m p = nat_lt 0 p && (nat_lt p (length m.processes + 1) && not (has_ended (process_of m p).standing))

-- a line more in the log
abbrev pub logged : State → Line → State
logged m line = record m { log = m.log ++ line ∷ [] }

-- the numbers but for one
abbrev pub without : List ℕ → ℕ → List ℕ
without ready p = filter (λ q. not (q == p)) ready

-- the process ready, at the end of the list
abbrev pub made_ready : State → ℕ → State
made_ready m p = record (with_process m p (record (process_of m p) { standing = Ready })) { ready = without m.ready p ++ p ∷ [] }

-- the process of another standing, and not in the ready list
abbrev pub made_unready : State → ℕ → Standing → State
made_unready m p standing = record (with_process m p (record (process_of m p) { standing = standing })) { ready = without m.ready p }

-- register 26 cleared, register 27 holding the pc, and no load late
abbrev pub touched_process : Process → Process
touched_process q = record q { registers = record (settled q.registers) { general = slice_set (slice_set q.registers.general 26 0) 27 q.pc } }

-- the first of the ready processes touched
abbrev pub touch_first : State → List ℕ → State
touch_first m [] = m
touch_first m (p ∷ rest) = with_process m p (touched_process (process_of m p))

-- The first ready process may lose registers 26 and 27, and its late load, to the refill of a translation.
abbrev pub touched : Bool → State → State
touched b m = if b then touch_first m m.ready else m

-- the first of a list
abbrev pub first : List ℕ → Option ℕ
first [] = None
first (p ∷ rest) = Some p
