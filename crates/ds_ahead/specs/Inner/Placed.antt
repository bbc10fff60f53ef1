-- A stretch's position, which it keeps beside the processor.
use Rattle.std.specs.Prelude.{◌≢◌, ℕ, ◌+◌, Bool, false, true, Option, None, IfSome}
use Rattle.ds_word.specs.Word.{word}
use Rattle.ds_isa.specs.declared.instr.Late.{Late}
use Rattle.ds_isa.specs.Registers.{Registers, written}
use Rattle.ds_tlb.specs.Inner.Entries.{passed}
use Rattle.ds_core.specs.Core.{CoreState}

-- where a stretch stands: the places of the program, and the load that is late
pub record Place : Type 0 where
  pub pc : ℕ
  pub next : ℕ
  pub slot : Bool
  pub late : Option Late

-- the registers, with the load that is late at a position
abbrev pub registers_at : CoreState → Place → Registers
registers_at c at = record c.registers { late = at.late }

-- the processor as it stands at a position, when so many ticks more have been counted
abbrev pub placed : ℕ → CoreState → Place → CoreState
placed n c at = record c { registers = registers_at c at; pc = at.pc; next = at.next; slot = at.slot; random = passed 64 8 n c.random }

-- the position after an operation that is done
abbrev pub at_next : Place → Place
at_next at = record { pc = at.next; next = word (at.next + 4); slot = false; late = None }

-- the position in the slot of a branch to the target
abbrev pub at_slot : Place → ℕ → Place
at_slot at target = record { pc = at.next; next = target; slot = true; late = None }

-- a register is written, whatever load is late
abbrev pub with_general : Registers → ℕ → ℕ → Registers
with_general r n v = record r { general = (written r n v).general }

-- the load that is late, if one is, is of another register
abbrev pub IsFree : Option Late → ℕ → Type 0
IsFree late n = IfSome late (λ l. l.register ≢ n)
