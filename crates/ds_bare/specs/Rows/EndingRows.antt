-- Worked rows: what counts as no handler at the general vector, whose words are those from physical 80 to FC.
use Rattle.std.specs.Prelude.{◌≡◌, refl, true, false}
use Rattle.ds_word.specs.Bytes.{with_word}
use Rattle.ds_mem.specs.Memory.{zeros}
use Rattle.ds_bare.specs.Endings.{are_zero}

-- 32 words are 0
pub zeros_are_no_handler : are_zero (zeros 256) 0x80 32 ≡ true
unfolding are_zero zeros
zeros_are_no_handler = refl

-- of which the 32nd alone is not
pub the_32nd_word_is_a_handler : are_zero (with_word (zeros 256) 0xFC 1) 0x80 32 ≡ false
unfolding are_zero zeros
the_32nd_word_is_a_handler = refl

-- the words before and after them are not looked at
pub words_around_are_no_handler : are_zero (with_word (with_word (zeros 260) 0x7C 1) 0x100 1) 0x80 32 ≡ true
unfolding are_zero zeros
words_around_are_no_handler = refl
