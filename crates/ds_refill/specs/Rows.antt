-- What words of the handler make of a small processor: each row is a theorem about the definitions alone.
use Rattle.std.specs.Prelude.{◌≡◌, refl, false, [], slice_index, None}
use Rattle.ds_isa.specs.Registers.{zero_registers}
use Rattle.ds_cp0.specs.System.{at_start, entered}
use Rattle.ds_dev.specs.Bus.{BusState}
use Rattle.ds_core.specs.Core.{CoreState}
use Rattle.ds_refill.specs.Refill.{lent}
use Rattle.ds_refill.specs.Inner.Refill.{cleared, jumped, at_word, later, table_miss}

-- the handler before its sixth word: a page-table word in register 26, the program's address in register 27
abbrev lending : CoreState
lending = at_word 0x80000014 0x80000018 false (lent zero_registers 0x1700 0x00400004 None) at_start [] 8

pub register_26_has_the_page_table_word : slice_index lending.registers.general 26 ≡ 0x1700
register_26_has_the_page_table_word = refl

pub register_27_has_the_address : slice_index lending.registers.general 27 ≡ 0x00400004
register_27_has_the_address = refl

pub the_sixth_word_clears_register_26 : (b : BusState) → slice_index (cleared lending b).core.registers.general 26 ≡ 0
the_sixth_word_clears_register_26 b = refl

pub the_eighth_word_jumps_to_the_address : (b : BusState) → (jumped lending b).core.next ≡ 0x00400004
the_eighth_word_jumps_to_the_address b = refl

-- by 9 and 8 to 63, since the slots below 8 are wired
pub random_goes_from_10_to_63 : later 3 10 ≡ 63
random_goes_from_10_to_63 = refl

pub a_double_miss_comes_back_to_the_third_word : (entered at_start (table_miss 0xC0001000)).epc ≡ 0x80000008
a_double_miss_comes_back_to_the_third_word = refl
