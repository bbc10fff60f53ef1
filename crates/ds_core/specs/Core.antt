-- The processor as a record, and how it goes on after an instruction or an exception (Kane and Heinrich, chapter 5).
use Rattle.std.specs.Prelude.{ℕ, ◌+◌, Bool, true, false, List, None}
use Rattle.ds_word.specs.Word.{word}
use Rattle.ds_isa.specs.Registers.{Registers, settled}
use Rattle.ds_tlb.specs.declared.entry.Entry.{Entry}
use Rattle.ds_tlb.specs.Entries.{random_after}
use Rattle.ds_cp0.specs.declared.exception.Exception.{Exception}
use Rattle.ds_cp0.specs.declared.exception.ExceptionCode.{ExceptionCode}
use Rattle.ds_cp0.specs.declared.exception.ExceptionCode.TheVariants.{ReservedInstruction}
use Rattle.ds_cp0.specs.System.{System, vector, entered}
use Rattle.ds_dev.specs.Bus.{BusState}
use Rattle.ds_core.specs.declared.event.Event.{Event}
use Rattle.ds_core.specs.declared.event.Event.TheVariants.{Retired, Branched, Raised}

-- the processor: registers, places of the program, system coprocessor, translation buffer
pub record CoreState : Type 0 where
  pub registers : Registers
  pub pc : ℕ
  -- the address of the instruction after pc
  pub next : ℕ
  -- pc stands right after a branch or jump
  pub slot : Bool
  pub system : System
  pub entries : List Entry
  pub random : ℕ

-- an event, and the processor and its bus after it
pub record Step : Type 0 where
  pub event : Event
  pub core : CoreState
  pub bus : BusState

-- the exception of an instruction that names neither an address nor a coprocessor
abbrev pub exception : CoreState → ExceptionCode → Exception
exception c code = record { code = code; pc = c.pc; slot = c.slot; unit = 0; addr = None; miss = false }

-- at the exception's vector; a late load is finished
abbrev pub core_at_vector : CoreState → Exception → CoreState
core_at_vector c e = record c { registers = settled c.registers; pc = vector e; next = word (vector e + 4); slot = false; system = entered c.system e }

-- the exception is raised, and the bus is as it was
abbrev pub at_vector : CoreState → BusState → Exception → Step
at_vector c b e = record { event = Raised e.code; core = core_at_vector c e; bus = b }

-- the exception of this code is raised
abbrev pub trapped : CoreState → BusState → ExceptionCode → Step
trapped c b code = at_vector c b (exception c code)

-- the processor at the next instruction, with these registers
abbrev pub core_at_next : CoreState → Registers → CoreState
core_at_next c r = record c { registers = r; pc = c.next; next = word (c.next + 4); slot = false }

-- on after the instruction
abbrev pub at_next : CoreState → BusState → Registers → Step
at_next c b r = record { event = Retired; core = core_at_next c r; bus = b }

-- on into the slot, and after it at the target
abbrev pub branched_core : CoreState → Registers → ℕ → CoreState
branched_core c r target = record c { registers = r; pc = c.next; next = target; slot = true }

-- a branch in a slot is reserved
abbrev pub branched : Bool → CoreState → BusState → Registers → ℕ → Step
branched true c b r target = trapped c b ReservedInstruction
branched false c b r target = record { event = Branched; core = branched_core c r target; bus = b }

-- Random counted down, as once for each instruction that began
abbrev pub with_tick : Step → Step
with_tick s = record s { core = record s.core { random = random_after 64 8 s.core.random } }
