-- A unit: one user instruction, or a branch or jump with its delay slot.
use Rattle.std.specs.Prelude.{ℕ, ◌+◌, List, [], ◌∷◌, slice_set, Some}
use Rattle.ds_isa.specs.declared.instr.Kind.{Kind}
use Rattle.ds_isa.specs.declared.instr.Kind.TheVariants as kind
use Rattle.ds_isa.specs.declared.instr.Size.{Size}
use Rattle.ds_isa.specs.declared.instr.Size.TheVariants.{Word}
use Rattle.ds_procs.specs.declared.process.Standing.TheVariants.{Parked}
use Rattle.ds_log.specs.declared.line.Denied.{Denied}
use Rattle.ds_log.specs.declared.line.Denied.TheVariants as denied
use Rattle.ds_policy.specs.declared.access.Rule.{Rule}
use Rattle.ds_policy.specs.declared.access.Rule.TheVariants.{I}
use Rattle.ds_log.specs.declared.line.Line.TheVariants.{Denial}
use Rattle.ds_word.specs.Word.{word}
use Rattle.ds_isa.specs.Instruction.{instruction_of}
use Rattle.ds_isa.specs.Registers.{Registers, settled}
use Rattle.ds_isa.specs.Meaning.{Effect, Goes, Branches, Loads, Stores, Faults, Calls, Privileged, meaning}
use Rattle.ds_policy.specs.declared.access.Verdict.{Verdict}
use Rattle.ds_policy.specs.declared.access.Verdict.TheVariants as verdict
use Rattle.ds_word.specs.Bytes.{word_at, with_word}
use Rattle.ds_policy.specs.Pages.{decide, bytes_of}
use Rattle.ds_pagemap.specs.Machine.{State, process_of, with_process, made_unready, logged, first}
use Rattle.ds_pagemap.specs.Calls.{served}
use Rattle.ds_procs.specs.Calls.{call_of}

-- why a unit stopped
pub record Stop : Type 0 where
  pub kind : Denied
  pub address : ℕ
  pub rule : Rule
  pub code : ℕ

-- the outcome of one instruction
pub data Outcome : Type 0 where
  Went : (after : State) → Outcome
  Branched : (after : State) (target : ℕ) → Outcome
  Called : Outcome
  Stopped : (stop : Stop) → Outcome

-- what a denied access is called in the log
abbrev pub denied_as : Kind → Denied
denied_as kind.Fetch = denied.Fetch
denied_as kind.Load = denied.Load
denied_as kind.Store = denied.Store

-- the process with other registers
abbrev pub with_registers : State → ℕ → Registers → State
with_registers m p r = with_process m p (record (process_of m p) { registers = r })

-- the process at another address
abbrev pub at_pc : State → ℕ → ℕ → State
at_pc m p pc = with_process m p (record (process_of m p) { pc = pc })

-- what is done on the page where the access is allowed, else a stop
abbrev pub where_allowed : Verdict → Kind → ℕ → (ℕ → ℕ → Outcome) → Outcome
where_allowed (verdict.Allowed page offset) kind address done = done page offset
where_allowed (verdict.Denied rule code) kind address done = Stopped (record { kind = denied_as kind; address = address; rule = rule; code = code })

-- an access that the table of this moment decides
abbrev pub access : State → ℕ → Kind → Size → ℕ → (ℕ → ℕ → Outcome) → Outcome
access m p kind size address done = where_allowed (decide m.memory.table p kind size address) kind address done

-- the word at an offset of a page changed
abbrev pub stored : State → ℕ → ℕ → (ℕ → ℕ) → State
stored m page offset after =
    let bytes = bytes_of m.memory.pages page in
    record m { memory = record m.memory { pages = slice_set m.memory.pages page (Some (with_word bytes offset (after (word_at bytes offset)))) } }

-- the stop of an instruction that faults
abbrev pub fault : ℕ → ℕ → Stop
fault pc code = record { kind = denied.Exec; address = pc; rule = I; code = code }

-- the outcome of an instruction's effect
abbrev pub done : State → ℕ → ℕ → Effect → Outcome
done m p pc (Goes after) = Went (with_registers m p after)
done m p pc (Branches after target) = Branched (with_registers m p after) target
done m p pc (Loads size address after) = access m p kind.Load size address (λ page offset. Went (with_registers m p (after (word_at (bytes_of m.memory.pages page) offset))))
done m p pc (Stores size address after) = access m p kind.Store size address (λ page offset. Went (stored (with_registers m p (settled (process_of m p).registers)) page offset after))
done m p pc (Faults code) = Stopped (fault pc code)
done m p pc Privileged = Stopped (fault pc 11)
done m p pc Calls = Called

-- the instruction at pc, fetched and done
unfoldable pub instruction : State → ℕ → ℕ → Outcome
instruction m p pc = access m p kind.Fetch Word pc (λ page offset. done m p pc (meaning (instruction_of (word_at (bytes_of m.memory.pages page) offset)) pc (process_of m p).registers))

-- later by so many ticks
abbrev pub ticked : ℕ → State → State
ticked n m = record m { time = m.time + n }

-- the process with no load late
abbrev pub settle : State → ℕ → State
settle m p = with_registers m p (settled (process_of m p).registers)

-- parked at the unit's address, with a line in the log for the instruction at pc
abbrev pub parked : State → ℕ → ℕ → ℕ → Stop → State
parked m p unit pc stop =
    ticked 1 (logged (at_pc (settle (made_unready m p Parked) p) p unit) (Denial m.time p pc stop.kind stop.address stop.rule stop.code))

-- the outcome of the slot at pc after the branch at unit; m is the state before the slot
abbrev pub after_slot : State → ℕ → ℕ → ℕ → ℕ → Outcome → State
after_slot m p unit pc target (Went after) = ticked 2 (at_pc after p target)
after_slot m p unit pc target (Branched after next) = parked m p unit pc (fault pc 10)
after_slot m p unit pc target Called = parked m p unit pc (fault pc 8)
after_slot m p unit pc target (Stopped stop) = parked m p unit pc stop

-- the state after a call: the process stands after it, and the call is served
abbrev pub after_call : State → ℕ → ℕ → State
after_call m p pc =
    let afterwards = at_pc (settle m p) p (word (pc + 4)) in
    ticked 1 (served afterwards p pc (call_of (process_of afterwards p).registers.general))

-- the outcome of the instruction at pc, in a state m
abbrev pub after_instruction : State → ℕ → ℕ → Outcome → State
after_instruction m p pc (Went after) = ticked 1 (at_pc after p (word (pc + 4)))
after_instruction m p pc (Branched after target) = let slot = word (pc + 4) in after_slot after p pc slot target (instruction after p slot)
after_instruction m p pc Called = after_call m p pc
after_instruction m p pc (Stopped stop) = parked m p pc pc stop

-- a unit of the first of the ready processes; where none is ready, a tick
abbrev pub unit_of_first : State → List ℕ → State
unit_of_first m [] = ticked 1 m
unit_of_first m (p ∷ rest) = let pc = (process_of m p).pc in after_instruction m p pc (instruction m p pc)

-- a unit of the first ready process, or an idle turn; a boundary is owed then
unfoldable pub unit : State → State
unit m = record (unit_of_first m m.ready) { owed = Some (record { began = m.time; runner = first m.ready }) }
