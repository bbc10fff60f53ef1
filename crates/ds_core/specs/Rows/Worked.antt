-- Worked rows, by computation.
use Rattle.std.specs.Prelude.{◌≡◌, ℕ, ◌^◌, false, true, List, [], ◌∷◌, replicate, slice_index, slice_set, refl, None}
use Rattle.ds_tlb.specs.declared.entry.Entry.{Entry}
use Rattle.ds_cp0.specs.Codes.{code_number}
use Rattle.ds_cp0.specs.System.{at_start}
use Rattle.ds_dev.specs.Bus.{BusState}
use Rattle.ds_dev.specs.Bus as bus
use Rattle.ds_core.specs.declared.event.Event.{Event}
use Rattle.ds_core.specs.declared.event.Event.TheVariants.{Retired, Branched, Raised}
use Rattle.ds_core.specs.Core.{CoreState, Step}
use Rattle.ds_core.specs.Effect.{step}
use Rattle.ds_word.specs.Inner.Bytes.{bytes_of_words}
use Rattle.ds_core.specs.Rows.Refilled.{steps}

-- the kernel at 80000000, registers 1 to 31 with 7 but the eighth
abbrev kernel : ℕ → CoreState
kernel eighth = record {
  registers = record { general = slice_set (0 ∷ replicate 31 7) 8 eighth; hi = 0; lo = 0; late = None };
  pc = 0x80000000;
  next = 0x80000004;
  slot = false;
  system = at_start;
  entries = [];
  random = 63;
}

-- a bus whose memory begins with these words
abbrev bus_with : List ℕ → BusState
bus_with words = bus.at_start (bytes_of_words words)

-- general register n
abbrev general : CoreState → ℕ → ℕ
general c n = slice_index c.registers.general n

-- a load is late for the instruction after it, whose own write wins
pub late : general (steps 2 (kernel 0x80000008) (bus_with (0x8D090000 ∷ 0x01202021 ∷ 0x55 ∷ []))) 4 ∷ general (steps 2 (kernel 0x80000008) (bus_with (0x8D090000 ∷ 0x24090001 ∷ 0x55 ∷ []))) 9 ∷ [] ≡ 7 ∷ 1 ∷ []
late = refl

-- the code of an exception, 100 for a branch and 200 for what is done
abbrev number : Event → ℕ
number Retired = 200
number Branched = 100
number (Raised code) = code_number code

-- a step's event, EPC, BadVAddr, EntryHi, Cause, Random and the address after it
abbrev row : Step → List ℕ
row s = number s.event ∷ s.core.system.epc ∷ s.core.system.bad_vaddr ∷ s.core.system.entry_hi ∷ s.core.system.cause ∷ s.core.random ∷ s.core.pc ∷ []

-- a user at 00400000 whose page is frame 0, read only, in address space 1; Status and the eighth register vary
abbrev page : Entry
page = record { vpn = 0x400; asid = 1; pfn = 0; n = false; d = false; v = true; g = false }

-- a page that is not valid
abbrev absent : Entry
absent = record { vpn = 0x401; asid = 1; pfn = 0; n = false; d = true; v = false; g = false }

-- a page where there is no memory
abbrev nowhere : Entry
nowhere = record { vpn = 0x402; asid = 1; pfn = 0x800; n = false; d = true; v = true; g = false }

-- a processor in user mode with this value in register 8
abbrev user : ℕ → CoreState
user eighth = record (kernel eighth) {
  pc = 0x400000;
  next = 0x400004;
  system = record at_start { status = 3; entry_hi = 2 ^ 6 };
  entries = page ∷ absent ∷ nowhere ∷ [];
}

-- the step of a user over a word
abbrev of_user : ℕ → ℕ → List ℕ
of_user eighth w = row (step (user eighth) (bus_with (w ∷ [])))

-- loads: off four, in the kernel's half, of a page that no entry names, that is not valid, where nothing is
pub loads :
    of_user 0x400002 0x8D090000 ∷ of_user 0x80000000 0x8D090000 ∷ of_user 0x403000 0x8D090000 ∷ of_user 0x401000 0x8D090000 ∷ of_user 0x402000 0x8D090000 ∷ []
    ≡ (4 ∷ 0x400000 ∷ 0x400002 ∷ 0x40 ∷ 0x10 ∷ 62 ∷ 0x80000080 ∷ [])
    ∷ (4 ∷ 0x400000 ∷ 0x80000000 ∷ 0x40 ∷ 0x10 ∷ 62 ∷ 0x80000080 ∷ [])
    ∷ (2 ∷ 0x400000 ∷ 0x403000 ∷ 0x403040 ∷ 0x08 ∷ 62 ∷ 0x80000000 ∷ [])
    ∷ (2 ∷ 0x400000 ∷ 0x401000 ∷ 0x401040 ∷ 0x08 ∷ 62 ∷ 0x80000080 ∷ [])
    ∷ (7 ∷ 0x400000 ∷ 0 ∷ 0x40 ∷ 0x1C ∷ 62 ∷ 0x80000080 ∷ [])
    ∷ []
loads = refl

-- stores: off two, missing, not valid, to a page that may not be written, where nothing is
pub stores :
    of_user 0x400001 0xA5090000 ∷ of_user 0x403000 0xAD090000 ∷ of_user 0x401000 0xAD090000 ∷ of_user 0x400004 0xAD090000 ∷ of_user 0x402000 0xAD090000 ∷ []
    ≡ (5 ∷ 0x400000 ∷ 0x400001 ∷ 0x40 ∷ 0x14 ∷ 62 ∷ 0x80000080 ∷ [])
    ∷ (3 ∷ 0x400000 ∷ 0x403000 ∷ 0x403040 ∷ 0x0C ∷ 62 ∷ 0x80000000 ∷ [])
    ∷ (3 ∷ 0x400000 ∷ 0x401000 ∷ 0x401040 ∷ 0x0C ∷ 62 ∷ 0x80000080 ∷ [])
    ∷ (1 ∷ 0x400000 ∷ 0x400004 ∷ 0x400040 ∷ 0x04 ∷ 62 ∷ 0x80000080 ∷ [])
    ∷ (7 ∷ 0x400000 ∷ 0 ∷ 0x40 ∷ 0x1C ∷ 62 ∷ 0x80000080 ∷ [])
    ∷ []
stores = refl

-- system call, breakpoint, reserved word, overflow; mfc0, rfe and a word of coprocessor 3 by a user
pub faults :
    of_user 0x7FFFFFFF 0x0000000C ∷ of_user 0x7FFFFFFF 0x0000000D ∷ of_user 0x7FFFFFFF 0xFC000000 ∷ of_user 0x7FFFFFFF 0x21090001 ∷ of_user 0 0x401A2000 ∷ of_user 0 0x42000010 ∷ of_user 0 0x4C000000 ∷ []
    ≡ (8 ∷ 0x400000 ∷ 0 ∷ 0x40 ∷ 0x20 ∷ 62 ∷ 0x80000080 ∷ [])
    ∷ (9 ∷ 0x400000 ∷ 0 ∷ 0x40 ∷ 0x24 ∷ 62 ∷ 0x80000080 ∷ [])
    ∷ (10 ∷ 0x400000 ∷ 0 ∷ 0x40 ∷ 0x28 ∷ 62 ∷ 0x80000080 ∷ [])
    ∷ (12 ∷ 0x400000 ∷ 0 ∷ 0x40 ∷ 0x30 ∷ 62 ∷ 0x80000080 ∷ [])
    ∷ (11 ∷ 0x400000 ∷ 0 ∷ 0x40 ∷ 0x2C ∷ 62 ∷ 0x80000080 ∷ [])
    ∷ (11 ∷ 0x400000 ∷ 0 ∷ 0x40 ∷ 0x2C ∷ 62 ∷ 0x80000080 ∷ [])
    ∷ (11 ∷ 0x400000 ∷ 0 ∷ 0x40 ∷ 0x3000002C ∷ 62 ∷ 0x80000080 ∷ [])
    ∷ []
faults = refl

-- in a slot BD is set and EPC is the branch's; a branch there is reserved
abbrev in_slot : CoreState → CoreState
in_slot c = record c { slot = true }

pub slots :
    row (step (in_slot (user 0)) (bus_with (0x0000000C ∷ []))) ∷ row (step (in_slot (user 0)) (bus_with (0x10000001 ∷ []))) ∷ []
    ≡ (8 ∷ 0x3FFFFC ∷ 0 ∷ 0x40 ∷ 0x80000020 ∷ 62 ∷ 0x80000080 ∷ []) ∷ (10 ∷ 0x3FFFFC ∷ 0 ∷ 0x40 ∷ 0x80000028 ∷ 62 ∷ 0x80000080 ∷ []) ∷ []
slots = refl

-- fetches: off four before the segment, the kernel's half, a miss, a page that is not valid, where nothing is
abbrev from : ℕ → List ℕ
from pc = row (step (record (user 0) { pc = pc }) (bus_with []))

pub fetches :
    from 0x80000002 ∷ from 0x80000000 ∷ from 0x403000 ∷ from 0x401000 ∷ from 0x402000 ∷ []
    ≡ (4 ∷ 0x80000002 ∷ 0x80000002 ∷ 0x40 ∷ 0x10 ∷ 62 ∷ 0x80000080 ∷ [])
    ∷ (4 ∷ 0x80000000 ∷ 0x80000000 ∷ 0x40 ∷ 0x10 ∷ 62 ∷ 0x80000080 ∷ [])
    ∷ (2 ∷ 0x403000 ∷ 0x403000 ∷ 0x403040 ∷ 0x08 ∷ 62 ∷ 0x80000000 ∷ [])
    ∷ (2 ∷ 0x401000 ∷ 0x401000 ∷ 0x401040 ∷ 0x08 ∷ 62 ∷ 0x80000080 ∷ [])
    ∷ (6 ∷ 0x402000 ∷ 0 ∷ 0x40 ∷ 0x18 ∷ 62 ∷ 0x80000080 ∷ [])
    ∷ []
fetches = refl

-- an interrupt that software asked for comes before the instruction, in a slot before its branch, and Random stands;
-- a write of Status lets it through at the next instruction
abbrev asked : CoreState → CoreState
asked c = record c { system = record c.system { status = 0x101; cause = 0x100 } }

pub interrupts :
    row (step (asked (in_slot (kernel 0))) (bus_with (0 ∷ [])))
    ∷ row (step (record (kernel 0x101) { system = record at_start { cause = 0x100 } }) (bus_with (0x40886000 ∷ [])))
    ∷ row (step (steps 1 (record (kernel 0x101) { system = record at_start { cause = 0x100 } }) (bus_with (0x40886000 ∷ 0 ∷ []))) (bus_with (0x40886000 ∷ 0 ∷ [])))
    ∷ []
    ≡ (0 ∷ 0x7FFFFFFC ∷ 0 ∷ 0 ∷ 0x80000100 ∷ 63 ∷ 0x80000080 ∷ [])
    ∷ (200 ∷ 0 ∷ 0 ∷ 0 ∷ 0x100 ∷ 62 ∷ 0x80000004 ∷ [])
    ∷ (0 ∷ 0x80000004 ∷ 0 ∷ 0 ∷ 0x100 ∷ 62 ∷ 0x80000080 ∷ [])
    ∷ []
interrupts = refl
