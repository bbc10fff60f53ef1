-- What some units ask for, where a small processor is in them, and what is counted: each row is a theorem about the definitions alone.
use Rattle.std.specs.Prelude.{◌≡◌, refl, ℕ, Bool, true, false, [], ◌∷◌, Some, None}
use Rattle.ds_isa.specs.Registers.{Registers, zero_registers}
use Rattle.ds_isa.specs.declared.instr.Size.TheVariants.{Byte, Word}
use Rattle.ds_isa.specs.Meaning.{Goes, Loads, Stores, Calls}
use Rattle.ds_policy.specs.declared.access.Verdict.TheVariants.{Allowed, Denied}
use Rattle.ds_policy.specs.declared.access.Rule.TheVariants.{K}
use Rattle.ds_cp0.specs.System.{at_start}
use Rattle.ds_core.specs.Core.{CoreState}
use Rattle.ds_refill.specs.Inner.Refill.{at_word}
use Rattle.ds_pagemap.specs.Machine.{State}
use Rattle.ds_pagemap_laws.specs.Rows.{resting, state_of}
use Rattle.ds_refinement.specs.Course.{Begun, InItsSlot, AtWord, AtDoubleMiss, AtModification, AtService}
use Rattle.ds_refinement.specs.Needs.{page_of_address, asked_by, asked_where, pages_of_unit}
use Rattle.ds_refinement.specs.Counts.{Counts, one_more, one_written, one_tabled, one_copied, unit_place, fresh_counts}

-- Pages.

pub the_last_word_of_a_page_is_in_it : page_of_address 0x00400FFC ≡ 0x400
the_last_word_of_a_page_is_in_it = refl

pub a_load_asks_for_its_page : (after : ℕ → Registers) → asked_by (Loads Byte 0x00402001 after) ≡ Some 0x402
a_load_asks_for_its_page after = refl

pub a_store_asks_for_its_page : (after : ℕ → ℕ) → asked_by (Stores Word 0x00402FFC after) ≡ Some 0x402
a_store_asks_for_its_page after = refl

pub a_sum_asks_for_no_data : asked_by (Goes zero_registers) ≡ None
a_sum_asks_for_no_data = refl

pub a_call_asks_for_no_data : asked_by Calls ≡ None
a_call_asks_for_no_data = refl

-- one process, whose next instruction is the last of page 400
abbrev last : State
last = state_of (record resting { pc = 0x00400FFC } ∷ []) (1 ∷ []) []

-- its page begins with lw $8,0x7000($0)
abbrev loads : State
loads = record last { memory = record { pages = Some (0x00 ∷ 0x70 ∷ 0x08 ∷ 0x8C ∷ []) ∷ []; table = [] ∷ []; named = 0 } }

pub a_load_from_7000_asks_for_page_7 : asked_where loads 1 0x00400FFC (Allowed 0 0) ≡ Some 7
a_load_from_7000_asks_for_page_7 = refl

pub what_is_not_fetched_asks_for_no_data : asked_where loads 1 0x00400FFC (Denied K 2) ≡ None
what_is_not_fetched_asks_for_no_data = refl

pub it_is_fetched_from_page_400 : (pages_of_unit last 1).fetch ≡ 0x400
it_is_fetched_from_page_400 = refl

pub its_slot_is_in_the_next_page : (pages_of_unit last 1).slot ≡ 0x401
its_slot_is_in_the_next_page = refl

-- Places.

-- a processor at an address, with this Status and this Cause
abbrev at : ℕ → Bool → ℕ → ℕ → CoreState
at pc slot status cause = at_word pc 0 slot zero_registers (record at_start { status = status; cause = cause }) [] 63

pub in_user_mode_a_unit_is_at_its_beginning : unit_place (at 0x00400FFC false 0xC03 0) ≡ Begun
in_user_mode_a_unit_is_at_its_beginning = refl

pub or_in_its_slot : unit_place (at 0x00401000 true 0xC03 0) ≡ InItsSlot
or_in_its_slot = refl

pub at_80000018_it_is_at_the_seventh_word : unit_place (at 0x80000018 false 0xC0C 8) ≡ AtWord 6
at_80000018_it_is_at_the_seventh_word = refl

pub in_the_third_mode_it_is_at_a_double_miss : unit_place (at 0x80000080 false 0xC30 8) ≡ AtDoubleMiss
in_the_third_mode_it_is_at_a_double_miss = refl

pub code_1_is_a_modification : unit_place (at 0x80000080 false 0xC0C 4) ≡ AtModification
code_1_is_a_modification = refl

pub code_2_is_any_other_exception : unit_place (at 0x80000080 false 0xC0C 8) ≡ AtService
code_2_is_any_other_exception = refl

-- Counts.

-- two instructions, of which the first wrote slot 20
abbrev two : Counts
two = one_more (one_written 20 (fresh_counts 7))

pub two_instructions_are_counted : two.spent ≡ 2
two_instructions_are_counted = refl

pub two_steps_of_random_since_the_write : two.since ≡ 2
two_steps_of_random_since_the_write = refl

pub no_step_of_random_before_a_write : (one_more (fresh_counts 7)).since ≡ 0
no_step_of_random_before_a_write = refl

pub slot_20_is_written : two.written ≡ 20 ∷ []
slot_20_is_written = refl

pub after_slot_7_comes_slot_0 : (one_tabled two).wired ≡ 0
after_slot_7_comes_slot_0 = refl

pub a_double_miss_and_a_copy_are_two_services : (one_copied (one_tabled two)).services ≡ 2
a_double_miss_and_a_copy_are_two_services = refl

pub neither_counts_an_instruction : (one_copied (one_tabled two)).spent ≡ 2
neither_counts_an_instruction = refl
