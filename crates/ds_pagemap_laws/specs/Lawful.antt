-- States as runs have them.
use Rattle.std.specs.Prelude.{◌≡◌, ◌<◌, ◌≤◌, ℕ, length, slice_index, IfSome}
use Rattle.std.specs.List.{All}
use Rattle.ds_isa.specs.Registers.{Registers}
use Rattle.ds_procs.specs.declared.process.Standing.TheVariants.{Ready}
use Rattle.ds_pagemap.specs.Machine.{State, Process, process_of}
use Rattle.ds_pagemap_laws.specs.Due.{NobodyWakes}

-- 32 registers, of which register 0 is 0; a load that is late is of one of them
pub record AreRegisters (r : Registers) : Type 0 where
  pub size : length r.general ≡ 32
  pub nought : slice_index r.general 0 ≡ 0
  pub late : IfSome r.late (λ l. l.register < 32)

-- a process with such registers, on one of the four lines
pub record IsProcess (q : Process) : Type 0 where
  pub registers : AreRegisters q.registers
  pub line : q.line < 4

-- there is a process of this number, and it is ready
abbrev pub IsReady : State → ℕ → Type 0
IsReady m p = (0 < p) × (p ≤ length m.processes) × ((process_of m p).standing ≡ Ready)

-- at most a hundred processes, four lines, and a table with entries for each process
pub record HasSizes (m : State) : Type 0 where
  pub processes : length m.processes ≤ 100
  pub queues : length m.queues ≡ 4
  pub consoles : length m.consoles ≡ 4
  pub table : length m.memory.table ≡ length m.processes

-- all that the steps of a boundary keep
pub record IsWellFormed (m : State) : Type 0 where
  pub ready : All (IsReady m) m.ready
  pub processes : (p : ℕ) → IsProcess (process_of m p)
  pub sizes : HasSizes m

-- and, outside of boundaries, nobody waits whose queue has a character
pub record IsLawful (m : State) : Type 0 where
  pub formed : IsWellFormed m
  pub asleep : NobodyWakes m
