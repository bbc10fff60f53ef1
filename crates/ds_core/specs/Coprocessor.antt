-- The instructions of the system coprocessor, the translation buffer's among them (Kane and Heinrich, chapters 4 and 5).
use Rattle.std.specs.Prelude.{ℕ, ◌+◌, ◌*◌, ◌^◌, ◌%◌, Bool, false, ◌&&◌, ◌||◌, not, ◌==◌, if◌then◌else◌, slice_index_or, slice_set, None, bit_or}
use Rattle.ds_word.specs.Word.{bits, bit}
use Rattle.ds_isa.specs.declared.instr.Instr.{Instr}
use Rattle.ds_isa.specs.declared.instr.Instr.TheVariants as instr
use Rattle.ds_isa.specs.Registers.{read, settled, loaded}
use Rattle.ds_tlb.specs.declared.entry.Entry.{Entry}
use Rattle.ds_tlb.specs.Entries.{find, empty_entry, index_word}
use Rattle.ds_tlb.specs.Words.{hi_word, lo_word, entry_of}
use Rattle.ds_cp0.specs.declared.exception.Exception.{Exception}
use Rattle.ds_cp0.specs.declared.exception.ExceptionCode.TheVariants.{ReservedInstruction, CoprocessorUnusable}
use Rattle.ds_cp0.specs.System.{System, asid_of, is_user, reads, after_write, returned}
use Rattle.ds_dev.specs.Bus.{BusState, lines}
use Rattle.ds_core.specs.Core.{CoreState, Step, at_vector, trapped, at_next}

-- coprocessor 0 in kernel mode, else each by its bit in Status; of its number the low two bits count
abbrev pub is_coprocessor_usable : CoreState → ℕ → Bool
is_coprocessor_usable c unit = ((unit % 4 == 0) && not (is_user c.system)) || (bits c.system.status (28 + unit % 4) 1 == 1)

-- the exception of a coprocessor that may not be used
abbrev pub unusable_exception : CoreState → ℕ → Exception
unusable_exception c unit = record { code = CoprocessorUnusable; pc = c.pc; slot = c.slot; unit = unit; addr = None; miss = false }

-- that exception is raised
abbrev pub unusable : CoreState → BusState → ℕ → Step
unusable c b unit = at_vector c b (unusable_exception c unit)

-- the requests of the devices, as Cause shows them
abbrev pub requests : BusState → ℕ
requests b = bit 10 (lines b).0 + bit 11 (lines b).1

-- what register n of the coprocessor reads, Random and the requests of the devices included
abbrev pub system_reads : CoreState → BusState → ℕ → ℕ
system_reads c b n =
    if n == 1 then c.random * 2 ^ 8 else
    if n == 13 then bit_or (reads c.system 13) (requests b) else reads c.system n

-- the slot that Index names
abbrev pub index_slot : System → ℕ
index_slot s = bits s.index 8 6

-- on after an instruction that leaves these registers of the coprocessor
abbrev pub with_system : CoreState → BusState → System → Step
with_system c b s = at_next (record c { system = s }) b (settled c.registers)

-- on after an instruction that writes EntryHi and EntryLo into a slot
abbrev pub with_slot_written : CoreState → BusState → ℕ → Step
with_slot_written c b slot = at_next (record c { entries = slice_set c.entries slot (entry_of c.system.entry_hi c.system.entry_lo) }) b (settled c.registers)

-- an entry's words written to EntryHi and EntryLo
abbrev pub after_read : System → Entry → System
after_read s e = after_write (after_write s 10 (hi_word e)) 2 (lo_word e)

-- what was found written to Index
abbrev pub after_probe : CoreState → System
after_probe c = after_write c.system 0 (index_word (find c.entries (bits c.system.entry_hi 12 20) (asid_of c.system)))

-- an instruction of a coprocessor that is usable; words that name no instruction are reserved
abbrev pub usable : CoreState → BusState → Instr → Step
usable c b (instr.Mfc0 rt rd) = at_next c b (loaded c.registers rt (system_reads c b rd))
usable c b (instr.Mtc0 rt rd) = with_system c b (after_write c.system rd (read c.registers rt))
usable c b instr.Tlbr = with_system c b (after_read c.system (slice_index_or c.entries (index_slot c.system) (empty_entry 0)))
usable c b instr.Tlbwi = with_slot_written c b (index_slot c.system)
usable c b instr.Tlbwr = with_slot_written c b c.random
usable c b instr.Tlbp = with_system c b (after_probe c)
usable c b instr.Rfe = with_system c b (returned c.system)
usable c b i = trapped c b ReservedInstruction

-- the coprocessor of an instruction
abbrev pub unit_of : Instr → ℕ
unit_of (instr.Cop unit w) = unit
unit_of i = 0

-- an instruction of a coprocessor, or its exception where that may not be used
abbrev pub privileged : CoreState → BusState → Instr → Step
privileged c b i = if is_coprocessor_usable c (unit_of i) then usable c b i else unusable c b (unit_of i)
