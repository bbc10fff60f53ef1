-- Signed arithmetic on words.
use Rattle.std.specs.Prelude.{ℕ, ◌+◌, ◌-◌, ◌/◌, ◌^◌, Bool, true, false, not, if◌then◌else◌, Option, Some, None}
use Rattle.ds_word.specs.Word.{word, is_negative, minus}

-- a word moved right by n bits, below copies of its sign
abbrev pub shifted_arithmetic : ℕ → ℕ → ℕ
shifted_arithmetic v n = if is_negative v then v / 2 ^ n + (2 ^ 32 - 2 ^ (32 - n)) else v / 2 ^ n

-- whether a sum has the wrong sign: that of neither operand
abbrev pub wrong_sign : Bool → Bool → Bool → Bool
wrong_sign true true b = not b
wrong_sign false false b = b
wrong_sign true false b = false
wrong_sign false true b = false

-- the signed sum, where a word holds it
abbrev pub signed_sum : ℕ → ℕ → Option ℕ
signed_sum x y = if wrong_sign (is_negative x) (is_negative y) (is_negative (word (x + y))) then None else Some (word (x + y))

-- the signed difference, where a word holds it
abbrev pub signed_difference : ℕ → ℕ → Option ℕ
signed_difference x y = if wrong_sign (is_negative x) (not (is_negative y)) (is_negative (minus x y)) then None else Some (minus x y)
