-- The nine words of the refill handler, run by the processor after a miss at 00410000 whose page-table entry stands in a
-- page that an entry of kseg2 maps to frame 1.
use Rattle.std.specs.Prelude.{◌≡◌, ℕ, zero, suc, ◌+◌, ◌-◌, ◌^◌, true, false, List, [], ◌∷◌, ◌++◌, map, replicate, slice_index, refl, Some, None}
use Rattle.std.specs.List.{range_with_len}
use Rattle.ds_word.specs.Inner.Bytes.{bytes_of_words}
use Rattle.ds_tlb.specs.declared.entry.Entry.{Entry}
use Rattle.ds_tlb.specs.Entries.{find, empty_entry}
use Rattle.ds_cp0.specs.declared.exception.ExceptionCode.TheVariants.{LoadMiss}
use Rattle.ds_cp0.specs.System.{at_start, entered, after_write}
use Rattle.ds_dev.specs.Bus.{BusState}
use Rattle.ds_dev.specs.Bus as bus
use Rattle.ds_core.specs.Core.{CoreState}
use Rattle.ds_core.specs.Effect.{step}

-- so many steps
abbrev pub steps : ℕ → CoreState → BusState → CoreState
steps zero c b = c
steps (suc n) c b = (let s = step c b in steps n s.core s.bus)

-- the bytes of the nine words
abbrev handler : List ℕ
handler = bytes_of_words (0x401A2000 ∷ 0x401B7000 ∷ 0x8F5A0000 ∷ 0 ∷ 0x409A1000 ∷ 0x0000D021 ∷ 0x42000006 ∷ 0x03600008 ∷ 0x42000010 ∷ [])

-- memory with the handler at 0, and a page table with the entry at 1040
abbrev bus_at_miss : BusState
bus_at_miss = bus.at_start (handler ++ (replicate (4096 + 0x40 - 36) 0 ++ bytes_of_words (0x2200 ∷ [])))

-- the entry that maps the table's page
abbrev table_page : Entry
table_page = record { vpn = 0xC0001; asid = 1; pfn = 1; n = false; d = false; v = true; g = false }

-- the processor at the handler's first word, after a load that missed
abbrev core_at_miss : CoreState
core_at_miss = record {
  registers = record { general = 0 ∷ replicate 31 7; hi = 0; lo = 0; late = None };
  pc = 0x80000000;
  next = 0x80000004;
  slot = false;
  system = entered (record (after_write at_start 4 0xC0000000) { status = 3; entry_hi = 2 ^ 6 }) (record { code = LoadMiss; pc = 0x400010; slot = false; unit = 0; addr = Some 0x410000; miss = true });
  entries = table_page ∷ map empty_entry (range_with_len 1 63);
  random = 63;
}

-- the processor nine steps later
abbrev core_after : CoreState
core_after = steps 9 core_at_miss bus_at_miss

-- the missing page has its entry, in the slot that Random named
pub refilled : find core_after.entries 0x410 1 ≡ Some 57
refilled = refl

-- back in user mode at the instruction that missed, register 26 cleared and its address in 27
pub back : core_after.pc ∷ core_after.system.status ∷ slice_index core_after.registers.general 26 ∷ slice_index core_after.registers.general 27 ∷ core_after.random ∷ [] ≡ 0x400010 ∷ 3 ∷ 0 ∷ 0x400010 ∷ 54 ∷ []
back = refl
