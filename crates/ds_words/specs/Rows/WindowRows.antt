-- Worked rows of texts that write words of memory.
use Rattle.std.specs.Prelude.{◌≡◌, None, Some, codes, refl}
use Rattle.clap.specs.Words.{Text}
use Rattle.ds_word.specs.Digits.{digits_from}
use Rattle.ds_words.specs.Windows.{written_window}

pub three_numbers_stand_around_two_colons : (text : Text) → text ≡ codes "1:00410000:8"
    → written_window text ≡ Some (record { process = 1; address = 4259840; count = 8 })
unfolding digits_from
three_numbers_stand_around_two_colons text same = rw same refl

pub an_address_may_have_0x_before_it : (text : Text) → text ≡ codes "12:0x7fC:3"
    → written_window text ≡ Some (record { process = 12; address = 2044; count = 3 })
unfolding digits_from
an_address_may_have_0x_before_it text same = rw same refl

pub an_address_has_eight_digits_or_fewer : (text : Text) → text ≡ codes "1:000410000:8" → written_window text ≡ None
unfolding digits_from
an_address_has_eight_digits_or_fewer text same = rw same refl

pub a_count_is_decimal : (text : Text) → text ≡ codes "1:00410000:a" → written_window text ≡ None
unfolding digits_from
a_count_is_decimal text same = rw same refl

pub no_part_is_empty : (text : Text) → text ≡ codes "1::8" → written_window text ≡ None
unfolding digits_from
no_part_is_empty text same = rw same refl

pub two_parts_write_nothing : (text : Text) → text ≡ codes "1:00410000" → written_window text ≡ None
unfolding digits_from
two_parts_write_nothing text same = rw same refl

pub four_parts_write_nothing : (text : Text) → text ≡ codes "1:00410000:8:1" → written_window text ≡ None
unfolding digits_from
four_parts_write_nothing text same = rw same refl
