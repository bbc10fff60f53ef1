-- Worked rows: merges of the word 44332211 with the register AABBCCDD, products and quotients, bytes and digits.
use Rattle.std.specs.Prelude.{codes, ◌≡◌, refl, ℕ, ◌*◌, List, [], ◌∷◌, map, true, Some, None}
use Rattle.ds_word.specs.Bytes.{bytes_of_word, word_at, with_word}
use Rattle.ds_word.specs.Inner.Bytes.{bytes_of_words}
use Rattle.ds_word.specs.Digits.{digits_from}
use Rattle.ds_word.specs.Word.{sign_extended, signed_lt}
use Rattle.ds_word.specs.Arithmetic.{shifted_arithmetic, signed_sum, signed_difference}
use Rattle.ds_word.specs.Merge.{merged_left, merged_right, stored_left, stored_right, with_bits}
use Rattle.ds_word.specs.Product.{halves, product_signed, quotient_signed, quotient_unsigned}

-- at each byte of the word
abbrev at_each_byte : (ℕ → ℕ → ℕ → ℕ) → List ℕ
at_each_byte f = map (λ b. f 0x44332211 b 0xAABBCCDD) (0 ∷ 1 ∷ 2 ∷ 3 ∷ [])

pub merges_left : at_each_byte merged_left ≡ 0x11BBCCDD ∷ 0x2211CCDD ∷ 0x332211DD ∷ 0x44332211 ∷ []
merges_left = refl

pub merges_right : at_each_byte merged_right ≡ 0x44332211 ∷ 0xAA443322 ∷ 0xAABB4433 ∷ 0xAABBCC44 ∷ []
merges_right = refl

pub stores_left : at_each_byte stored_left ≡ 0x443322AA ∷ 0x4433AABB ∷ 0x44AABBCC ∷ 0xAABBCCDD ∷ []
stores_left = refl

pub stores_right : at_each_byte stored_right ≡ 0xAABBCCDD ∷ 0xBBCCDD11 ∷ 0xCCDD2211 ∷ 0xDD332211 ∷ []
stores_right = refl

pub stores_a_byte : at_each_byte (λ w b reg. with_bits w (8 * b) 8 reg) ≡ 0x443322DD ∷ 0x4433DD11 ∷ 0x44DD2211 ∷ 0xDD332211 ∷ []
stores_a_byte = refl

pub stores_a_half : with_bits 0x44332211 0 16 0xAABBCCDD ∷ with_bits 0x44332211 16 16 0xAABBCCDD ∷ [] ≡ 0x4433CCDD ∷ 0xCCDD2211 ∷ []
stores_a_half = refl

pub lowest_by_two : halves (product_signed 0x80000000 2) ≡ (0xFFFFFFFF, 0)
lowest_by_two = refl

pub lowest_by_itself : halves (product_signed 0x80000000 0x80000000) ≡ (0x40000000, 0)
lowest_by_itself = refl

pub mixed_signs : halves (product_signed 0x12345678 0x9ABCDEF0) ≡ (0xF8CC93D6, 0x242D2080)
mixed_signs = refl

pub unsigned_product : halves (0x80000000 * 2) ≡ (1, 0)
unsigned_product = refl

-- -7 by 2, 7 by -2, -7 by -2
pub negative_dividend : quotient_signed 0xFFFFFFF9 2 ≡ (0xFFFFFFFF, 0xFFFFFFFD)
negative_dividend = refl

pub negative_divisor : quotient_signed 7 0xFFFFFFFE ≡ (1, 0xFFFFFFFD)
negative_divisor = refl

pub both_negative : quotient_signed 0xFFFFFFF9 0xFFFFFFFE ≡ (0xFFFFFFFF, 3)
both_negative = refl

pub lowest_by_minus_one : quotient_signed 0x80000000 0xFFFFFFFF ≡ (0, 0x80000000)
lowest_by_minus_one = refl

pub signed_by_zero : quotient_signed 0x80000000 0 ≡ (0x80000000, 0)
signed_by_zero = refl

pub unsigned_by_zero : quotient_unsigned 5 0 ≡ (5, 0)
unsigned_by_zero = refl

pub sign_copies : shifted_arithmetic 0xDEADBEEF 16 ≡ 0xFFFFDEAD
sign_copies = refl

pub sum_above : signed_sum 0x7FFFFFFF 1 ≡ None
sum_above = refl

pub sum_below : signed_sum 0x80000000 0xFFFFFFFF ≡ None
sum_below = refl

pub sum_across : signed_sum 0xFFFFFFFF 1 ≡ Some 0
sum_across = refl

pub difference_above : signed_difference 0x7FFFFFFF 0x80000000 ≡ None
difference_above = refl

pub difference_fits : signed_difference 0x80000000 0xFFFFFFFF ≡ Some 0x80000001
difference_fits = refl

pub lowest_is_less : signed_lt 0x80000000 0x7FFFFFFF ≡ true
lowest_is_less = refl

pub byte_below_zero : sign_extended 8 0x80 ≡ 0xFFFFFF80
byte_below_zero = refl

pub lowest_byte_first : bytes_of_word 0x44332211 ≡ 0x11 ∷ 0x22 ∷ 0x33 ∷ 0x44 ∷ []
lowest_byte_first = refl

pub word_in_which_a_place_lies : word_at (bytes_of_words (1 ∷ 0x44332211 ∷ 2 ∷ [])) 6 ≡ 0x44332211
word_in_which_a_place_lies = refl

pub only_that_word_is_replaced : with_word (bytes_of_words (1 ∷ 3 ∷ 2 ∷ [])) 7 0x44332211
    ≡ bytes_of_words (1 ∷ 0x44332211 ∷ 2 ∷ [])
only_that_word_is_replaced = refl

pub letters_of_either_case : digits_from 16 0xFFFFFFFF 0 (codes "00fFfF10") ≡ Some 0xFFFF10
unfolding digits_from
letters_of_either_case = refl

pub up_to_the_limit : map (λ limit. digits_from 10 limit 0 (codes "120")) (119 ∷ 120 ∷ []) ≡ None ∷ Some 120 ∷ []
unfolding digits_from
up_to_the_limit = refl

pub no_letter_in_base_ten : digits_from 10 99 0 (codes "1a") ≡ None
unfolding digits_from
no_letter_in_base_ten = refl
