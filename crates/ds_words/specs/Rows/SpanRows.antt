-- Worked rows of texts that write words of memory of the bare machine.
use Rattle.std.specs.Prelude.{◌≡◌, None, Some, codes, refl}
use Rattle.clap.specs.Words.{Text}
use Rattle.ds_word.specs.Digits.{digits_from}
use Rattle.ds_words.specs.Spans.{written_span}

pub two_numbers_stand_around_a_colon : (text : Text) → text ≡ codes "00500000:8" → written_span text ≡ Some (record { address = 5242880; count = 8 })
unfolding digits_from
two_numbers_stand_around_a_colon text same = rw same refl

pub three_parts_write_nothing : (text : Text) → text ≡ codes "1:00410000:8" → written_span text ≡ None
unfolding digits_from
three_parts_write_nothing text same = rw same refl
