-- What a small processor shows at each word of the handler, and after a double miss: each row is a theorem about the
-- definitions alone. The page at 00400000 was missed, whose page-table word is 1700 (frame 1, valid, dirty, global) and
-- stands at C0001000; the unit's address is 00400004.
use Rattle.std.specs.Prelude.{◌≡◌, ℕ, ◌<◌, ◌^◌, ◌⊎◌, true, false, [], ◌∷◌, slice_index, slice_get, Some, None, refl}
use Rattle.ds_isa.specs.Registers.{zero_registers}
use Rattle.ds_tlb.specs.declared.entry.Entry.{Entry}
use Rattle.ds_cp0.specs.System.{System, at_start, is_user}
use Rattle.ds_refill.specs.Handler.{handler_address}
use Rattle.ds_refill.specs.Inner.Handler.{phase_of}
use Rattle.ds_refill.specs.Refill.{lent, late_of}
use Rattle.ds_refill.specs.Inner.Refill.{at_word}
use Rattle.ds_tables.specs.Places.{Places}
use Rattle.ds_dev.specs.Bus.{BusState}
use Rattle.ds_core.specs.Core.{CoreState}
use Rattle.ds_pagemap.specs.Machine.{State}
use Rattle.ds_refinement.specs.Held.{Held, Kept, Own}
use Rattle.ds_refinement.specs.Units.{InService}
use Rattle.ds_refill.specs.Inner.Refills.{after_refill}
use Rattle.ds_refinement.specs.Handling.{handler_status, nested_status, HasBase, IsSet, AtContext, AtAddress, AtLoad, AtPause, AtMove, AtClear, AtWrite, AtJump, AtReturn, index_of, next_of, in_slot, Asked, Lends, BufferAnswers, has_touched, touches, InHandler, InDouble}
use Rattle.ds_refinement.specs.Copying.{InCopy}
use Rattle.ds_refinement.specs.Stands.{OnProcessor}
use Rattle.ds_refinement.specs.Inner.Services.{with_table_page}

-- Status.

pub the_handler_has_status_0C0C : handler_status ≡ 0xC0C
the_handler_has_status_0C0C = refl

pub a_double_miss_has_status_0C30 : nested_status ≡ 0xC30
a_double_miss_has_status_0C30 = refl

-- The words and their places.

pub the_seventh_word_stands_at_80000018 : handler_address (index_of AtWrite) ≡ 0x80000018
the_seventh_word_stands_at_80000018 = refl

pub that_is_phase_6 : phase_of 0x80000018 ≡ Some 6
that_is_phase_6 = refl

pub the_ninth_word_stands_at_80000020 : handler_address (index_of AtReturn) ≡ 0x80000020
the_ninth_word_stands_at_80000020 = refl

pub no_word_stands_after_it : phase_of 0x80000024 ≡ None
no_word_stands_after_it = refl

pub after_the_third_word_comes_the_fourth : next_of AtLoad 0x00400004 0x80000008 ≡ 0x8000000C
after_the_third_word_comes_the_fourth = refl

pub after_the_ninth_word_comes_the_unit : next_of AtReturn 0x00400004 0x80000020 ≡ 0x00400004
after_the_ninth_word_comes_the_unit = refl

pub the_jump_stands_in_no_slot : in_slot AtJump ≡ false
the_jump_stands_in_no_slot = refl

pub the_ninth_word_stands_in_the_jumps_slot : in_slot AtReturn ≡ true
the_ninth_word_stands_in_the_jumps_slot = refl

-- Registers 26 and 27, the late load and EntryLo, where 5 and 6 stood in the two registers before.

abbrev asked : Asked
asked = record { context = 0xC0001000; unit = 0x00400004; entry = 0x1700 }

pub the_first_word_finds_nothing_late : Lends AtContext asked (record { first = 5; second = 6; late = None; entry_lo = 0 })
the_first_word_finds_nothing_late = refl

pub the_second_word_finds_context_late : Lends AtAddress asked (record { first = 0xC0001000; second = 6; late = late_of 26 5; entry_lo = 0 })
the_second_word_finds_context_late = (5, refl, refl)

pub the_third_word_finds_the_units_address_late : Lends AtLoad asked (record { first = 0xC0001000; second = 0x00400004; late = late_of 27 6; entry_lo = 0 })
the_third_word_finds_the_units_address_late = (6, refl, refl, refl)

pub the_fourth_word_finds_the_page_table_word_late : Lends AtPause asked (record { first = 0x1700; second = 0x00400004; late = late_of 26 0xC0001000; entry_lo = 0 })
the_fourth_word_finds_the_page_table_word_late = (0xC0001000, refl, refl, refl)

pub the_fifth_word_finds_it_in_register_26 : Lends AtMove asked (record { first = 0x1700; second = 0x00400004; late = None; entry_lo = 0 })
the_fifth_word_finds_it_in_register_26 = (refl, refl, refl)

pub the_sixth_word_finds_it_in_entry_lo : Lends AtClear asked (record { first = 0x1700; second = 0x00400004; late = None; entry_lo = 0x1700 })
the_sixth_word_finds_it_in_entry_lo = (refl, refl, refl)

pub the_seventh_word_finds_register_26_clear : Lends AtWrite asked (record { first = 0; second = 0x00400004; late = None; entry_lo = 0x1700 })
the_seventh_word_finds_register_26_clear = (refl, refl, refl, refl)

pub the_eighth_word_finds_the_units_address_in_register_27 : Lends AtJump asked (record { first = 0; second = 0x00400004; late = None; entry_lo = 0x1700 })
the_eighth_word_finds_the_units_address_in_register_27 = (refl, refl, refl)

pub the_ninth_word_finds_the_same : Lends AtReturn asked (record { first = 0; second = 0x00400004; late = None; entry_lo = 0x1700 })
the_ninth_word_finds_the_same = (refl, refl, refl)

-- The TLB.

-- the page at 00400000, and the one after it, in address space 1
abbrev page : ℕ → Entry
page vpn = record { vpn = vpn; asid = 1; pfn = 1; n = false; d = true; v = true; g = false }

pub nothing_answers_before_the_seventh_word : BufferAnswers AtWrite (page 0x401 ∷ []) 0x400 1
nothing_answers_before_the_seventh_word = refl

pub a_slot_answers_after_it : BufferAnswers AtJump (page 0x401 ∷ page 0x400 ∷ []) 0x400 1
a_slot_answers_after_it = (1, refl)

-- The touch.

abbrev at : ℕ → CoreState
at pc = at_word pc 0 false zero_registers at_start [] 63

pub the_sixth_word_touches_nothing : touches (at 0x80000014) ≡ false
the_sixth_word_touches_nothing = refl

pub the_seventh_word_touches : touches (at 0x80000018) ≡ true
the_seventh_word_touches = refl

pub the_ninth_word_touches_nothing : touches (at 0x80000020) ≡ false
the_ninth_word_touches_nothing = refl

pub before_the_seventh_word_nobody_need_be_touched : has_touched AtWrite ≡ false
before_the_seventh_word_nobody_need_be_touched = refl

pub after_it_the_process_is_touched : has_touched AtJump ≡ true
after_it_the_process_is_touched = refl

-- EntryHi and Context.

pub context_begins_with_the_page_tables : HasBase (record at_start { context = 0xC0001000 })
context_begins_with_the_page_tables = record { tables = refl; whole = refl }

pub entry_hi_is_of_address_space_1 : (small : 0x00400040 < 2 ^ 32) → IsSet (record at_start { entry_hi = 0x00400040 }) 1
entry_hi_is_of_address_space_1 small = record { space = refl; small = small }

-- A double miss: the page of the table of region 1 was missed, which stands at the second place of process 1.

abbrev kernel : ℕ → System
kernel status = record at_start { status = status; entry_hi = 0xC0001040; context = 0xC0001000; epc = 0x80000008 }

abbrev general : ℕ → CoreState
general status = at_word 0x80000080 0x80000084 false (lent zero_registers 0xC0001000 0x00400004 None) (kernel status) (page 0x401 ∷ page 0x402 ∷ []) 63

pub in_the_third_mode_it_is_a_double_miss : (k : Kept) (p : ℕ) (m : State) → InDouble (general 0xC30) k p m
    → OnProcessor (is_user (general 0xC30).system) false (general 0xC30) k p m
in_the_third_mode_it_is_a_double_miss k p m double = double

pub in_the_second_mode_it_is_a_service_or_a_copy : (k : Kept) (p : ℕ) (m : State) → InService (general 0xC0C) p m ⊎ InCopy (general 0xC0C) k p m
    → OnProcessor (is_user (general 0xC0C).system) false (general 0xC0C) k p m
in_the_second_mode_it_is_a_service_or_a_copy k p m waits = waits

pub at_the_other_vector_it_is_the_handler : (k : Kept) (p : ℕ) (m : State) → InHandler AtContext (at 0x80000000) k p m
    → OnProcessor (is_user (at 0x80000000).system) false (at 0x80000000) k p m
at_the_other_vector_it_is_the_handler k p m handler = (AtContext, handler)

abbrev places : Places
places = (None ∷ Some 1 ∷ None ∷ None ∷ []) ∷ []

abbrev doubled : BusState → Kept → Own → Held
doubled b k own = record { core = general 0xC30; bus = b; kept = record k { tables = places }; own = record own { wired = 0 } }

abbrev served : BusState → Kept → Own → CoreState
served b k own = (with_table_page (doubled b k own) 1).core

pub the_unit_begins_again : (b : BusState) (k : Kept) (own : Own) → (served b k own).pc ≡ 0x00400004
the_unit_begins_again b k own = refl

pub and_then_goes_on : (b : BusState) (k : Kept) (own : Own) → (served b k own).next ≡ 0x00400008
and_then_goes_on b k own = refl

pub in_user_mode : (b : BusState) (k : Kept) (own : Own) → (served b k own).system.status ≡ 0xC03
in_user_mode b k own = refl

pub register_26_is_clear : (b : BusState) (k : Kept) (own : Own) → slice_index (served b k own).registers.general 26 ≡ 0
register_26_is_clear b k own = refl

pub register_27_has_the_units_address : (b : BusState) (k : Kept) (own : Own) → slice_index (served b k own).registers.general 27 ≡ 0x00400004
register_27_has_the_units_address b k own = refl

-- frame 3 has the table; it may be read
pub the_first_slot_has_the_tables_page : (b : BusState) (k : Kept) (own : Own)
    → slice_get (served b k own).entries 0 ≡ Some (record { vpn = 0xC0001; asid = 1; pfn = 3; n = false; d = false; v = true; g = false })
the_first_slot_has_the_tables_page b k own = refl

pub the_second_slot_stays : (b : BusState) (k : Kept) (own : Own) → slice_get (served b k own).entries 1 ≡ Some (page 0x402)
the_second_slot_stays b k own = refl

pub the_next_double_miss_takes_the_second_slot : (b : BusState) (k : Kept) (own : Own) → (with_table_page (doubled b k own) 1).own.wired ≡ 1
the_next_double_miss_takes_the_second_slot b k own = refl

pub after_the_eighth_slot_comes_the_first : (b : BusState) (k : Kept) (own : Own)
    → (with_table_page (record (doubled b k own) { own = record own { wired = 7 } }) 1).own.wired ≡ 0
after_the_eighth_slot_comes_the_first b k own = refl

-- A whole refill at once, from Random 10: the seventh word finds it at 60.

abbrev missed : CoreState
missed = at_word 0x80000000 0x80000004 false zero_registers (record at_start { status = 0xC0C; epc = 0x00400004; entry_hi = 0x00400040; context = 0xC0001000 }) [] 10

abbrev refilled : CoreState
refilled = after_refill missed 0x1700

pub nine_words_take_random_to_57 : refilled.random ≡ 57
nine_words_take_random_to_57 = refl

pub the_unit_begins_after_a_refill : refilled.pc ≡ 0x00400004
the_unit_begins_after_a_refill = refl

pub user_mode_comes_back : refilled.system.status ≡ 0xC03
user_mode_comes_back = refl

pub entry_lo_has_the_page_table_word : refilled.system.entry_lo ≡ 0x1700
entry_lo_has_the_page_table_word = refl

pub a_refill_clears_register_26 : slice_index refilled.registers.general 26 ≡ 0
a_refill_clears_register_26 = refl

pub a_refill_leaves_the_address_in_register_27 : slice_index refilled.registers.general 27 ≡ 0x00400004
a_refill_leaves_the_address_in_register_27 = refl
