-- Worked rows of digits.
use Rattle.std.specs.Prelude.{◌≡◌, refl, codes}
use Rattle.ds_text.specs.Digits.{hex2, hex4, hex8}

pub a_byte_has_two_digits : hex2 10 ≡ codes "0A"
a_byte_has_two_digits = refl

pub a_half_has_four_digits : hex4 48879 ≡ codes "BEEF"
unfolding hex4
a_half_has_four_digits = refl

pub a_word_has_eight_digits : hex8 4194316 ≡ codes "0040000C"
unfolding hex4 hex8
a_word_has_eight_digits = refl
