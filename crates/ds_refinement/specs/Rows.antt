-- What is told of accesses of a small processor: each row is a theorem about the definitions alone.
pub mod BoundRows
pub mod CourseRows
pub mod HandlerRows
pub mod StationRows
use Rattle.std.specs.Prelude.{◌≡◌, ℕ, ◌+◌, Bool, true, false, [], ◌∷◌, Ok, Err, refl}
use Rattle.ds_word.specs.Word.{word}
use Rattle.ds_isa.specs.declared.instr.Size.TheVariants.{Byte, Half, Word}
use Rattle.ds_isa.specs.declared.instr.Kind.TheVariants.{Fetch, Load, Store}
use Rattle.ds_isa.specs.Registers.{zero_registers}
use Rattle.ds_policy.specs.declared.access.Rule.TheVariants.{K}
use Rattle.ds_policy.specs.declared.access.Verdict.TheVariants.{Denied}
use Rattle.ds_policy.specs.Pages.{decide}
use Rattle.ds_tlb.specs.declared.entry.Entry.{Entry}
use Rattle.ds_amap.specs.declared.map.Fault.TheVariants.{Address, Refill, Invalid, Modified}
use Rattle.ds_amap.specs.Map.{at_physical}
use Rattle.ds_cp0.specs.System.{System, at_start}
use Rattle.ds_core.specs.Core.{CoreState}
use Rattle.ds_core.specs.Access.{reached}
use Rattle.ds_refinement.specs.Told.{code_in, is_delayed, own_in, kind_told, size_told}
use Rattle.ds_refinement.specs.Inner.Told.{system_after}

-- the page of the program at 00400000, frame 402, which may not be written, in address space 1
abbrev page : Entry
page = record { vpn = 0x400; asid = 1; pfn = 402; n = false; d = false; v = true; g = false }

-- a page at 00402000 that is not valid
abbrev absent : Entry
absent = record { vpn = 0x402; asid = 1; pfn = 0; n = false; d = false; v = false; g = false }

-- a program in user mode before the instruction at an address, in a slot or outside
abbrev user_at : ℕ → Bool → CoreState
user_at pc slot = record {
  registers = zero_registers;
  pc = pc;
  next = word (pc + 4);
  slot = slot;
  system = record at_start { status = 0xC03; entry_hi = 0x40 };
  entries = page ∷ absent ∷ [];
  random = 63;
}

-- the program outside a slot
abbrev outside : CoreState
outside = user_at 0x00400000 false

-- the program in a slot
abbrev in_slot : CoreState
in_slot = user_at 0x00400004 true

pub the_instruction_is_fetched : reached outside Fetch Word outside.pc ≡ Ok (at_physical 0x00192000)
the_instruction_is_fetched = refl

pub the_slot_is_fetched : reached in_slot Fetch Word in_slot.pc ≡ Ok (at_physical 0x00192004)
the_slot_is_fetched = refl

-- A load of a half at a page that no entry has.

pub a_load_misses : reached outside Load Half 0x00401002 ≡ Err Refill
a_load_misses = refl

-- after it
abbrev missed : System
missed = system_after outside Load 0x00401002 Refill

pub the_missed_load_has_code_2 : code_in missed ≡ 2
the_missed_load_has_code_2 = refl

pub the_missed_load_is_a_load : kind_told missed ≡ Load
the_missed_load_is_a_load = refl

pub the_missed_load_is_asked_for_as_a_byte : size_told missed Half ≡ Byte
the_missed_load_is_asked_for_as_a_byte = refl

-- A load in a slot at an address that does not suit its size.

pub a_load_is_not_aligned : reached in_slot Load Half 0x00401001 ≡ Err Address
a_load_is_not_aligned = refl

-- after it
abbrev misaligned : System
misaligned = system_after in_slot Load 0x00401001 Address

pub epc_names_the_branch : misaligned.epc ≡ 0x00400000
epc_names_the_branch = refl

pub the_slot_is_told : is_delayed misaligned ≡ true
the_slot_is_told = refl

pub the_instruction_stands_in_the_slot : own_in misaligned ≡ 0x00400004
the_instruction_stands_in_the_slot = refl

pub the_misaligned_load_has_code_4 : code_in misaligned ≡ 4
the_misaligned_load_has_code_4 = refl

pub the_misaligned_load_is_a_load : kind_told misaligned ≡ Load
the_misaligned_load_is_a_load = refl

pub the_misaligned_load_is_asked_for_as_a_half : size_told misaligned Half ≡ Half
the_misaligned_load_is_asked_for_as_a_half = refl

-- Loads that the entry makes invalid, and in the kernel's half.

pub a_load_is_invalid : reached outside Load Byte 0x00402003 ≡ Err Invalid
a_load_is_invalid = refl

pub a_load_is_of_the_kernel : reached outside Load Byte 0x80000001 ≡ Err Address
a_load_is_of_the_kernel = refl

-- after it
abbrev beyond : System
beyond = system_after outside Load 0x80000001 Address

-- rule K, since every address suits a byte; a word there would break rule A
pub a_byte_of_the_kernel_breaks_rule_k : decide [] 1 (kind_told beyond) (size_told beyond Byte) 0x80000001 ≡ Denied K 4
a_byte_of_the_kernel_breaks_rule_k = refl

-- A store into the program's own page, at the instruction itself.

pub a_store_is_modified : reached outside Store Word outside.pc ≡ Err Modified
a_store_is_modified = refl

-- after it
abbrev modified : System
modified = system_after outside Store outside.pc Modified

pub the_modified_store_has_code_1 : code_in modified ≡ 1
the_modified_store_has_code_1 = refl

pub the_modified_store_is_at_its_own_address : modified.bad_vaddr ≡ own_in modified
the_modified_store_is_at_its_own_address = refl

pub the_modified_store_is_a_store : kind_told modified ≡ Store
the_modified_store_is_a_store = refl

-- Stores that miss, that the entry makes invalid, and that are not aligned.

pub a_store_misses : reached outside Store Word 0x00401000 ≡ Err Refill
a_store_misses = refl

pub the_missed_store_has_code_3 : code_in (system_after outside Store 0x00401000 Refill) ≡ 3
the_missed_store_has_code_3 = refl

pub a_store_is_invalid : reached outside Store Word 0x00402000 ≡ Err Invalid
a_store_is_invalid = refl

pub a_store_is_not_aligned : reached outside Store Word 0x00401002 ≡ Err Address
a_store_is_not_aligned = refl

-- after it
abbrev misplaced : System
misplaced = system_after outside Store 0x00401002 Address

pub the_misplaced_store_has_code_5 : code_in misplaced ≡ 5
the_misplaced_store_has_code_5 = refl

pub the_misplaced_store_is_asked_for_as_a_word : size_told misplaced Word ≡ Word
the_misplaced_store_is_asked_for_as_a_word = refl

-- A slot in a page that no entry has.

-- the program before it
abbrev at_page_end : CoreState
at_page_end = user_at 0x00401000 true

pub a_slot_misses : reached at_page_end Fetch Word at_page_end.pc ≡ Err Refill
a_slot_misses = refl

-- after it
abbrev missed_slot : System
missed_slot = system_after at_page_end Fetch at_page_end.pc Refill

pub the_missed_slot_is_a_fetch : kind_told missed_slot ≡ Fetch
the_missed_slot_is_a_fetch = refl

-- An instruction in the kernel's half.

-- the program before it
abbrev astray : CoreState
astray = user_at 0x80000000 false

pub the_kernel_is_not_fetched : reached astray Fetch Word astray.pc ≡ Err Address
the_kernel_is_not_fetched = refl

-- after it
abbrev barred : System
barred = system_after astray Fetch astray.pc Address

pub the_barred_fetch_is_a_fetch : kind_told barred ≡ Fetch
the_barred_fetch_is_a_fetch = refl

pub the_barred_fetch_is_asked_for_as_a_word : size_told barred Byte ≡ Word
the_barred_fetch_is_asked_for_as_a_word = refl

-- a slot at 0 belongs to a branch at the last word of the address space
pub a_slot_at_0_is_told : own_in (system_after (user_at 0 true) Fetch 0 Refill) ≡ 0
a_slot_at_0_is_told = refl
