-- Products and quotients of words, by the magnitudes of signed ones.
use Rattle.std.specs.Prelude.{ℕ, ◌-◌, ◌*◌, ◌/◌, ◌%◌, ◌^◌, Bool, not, ◌==◌, if◌then◌else◌}
use Rattle.ds_word.specs.Word.{word, is_negative, negated, magnitude}

-- a number of 64 bits as its upper and lower words, HI and LO
abbrev pub halves : ℕ → ℕ × ℕ
halves n = (n / 2 ^ 32, n % 2 ^ 32)

-- whether one of two words is negative and the other is not
abbrev pub signs_differ : ℕ → ℕ → Bool
signs_differ x y = if is_negative x then not (is_negative y) else is_negative y

-- a magnitude with its sign, as a word
abbrev pub with_sign : Bool → ℕ → ℕ
with_sign negative n = if negative then negated n else n

-- a magnitude with its sign, as a number of 64 bits
abbrev pub with_sign_64 : Bool → ℕ → ℕ
with_sign_64 negative p = if negative then (2 ^ 64 - p) % 2 ^ 64 else p

-- the signed product of two words, of 64 bits
abbrev pub product_signed : ℕ → ℕ → ℕ
product_signed x y = with_sign_64 (signs_differ x y) (magnitude x * magnitude y)

-- HI and LO of an unsigned division: the remainder and the quotient; by zero the dividend and 0
abbrev pub quotient_unsigned : ℕ → ℕ → ℕ × ℕ
quotient_unsigned x y = if y == 0 then (x, 0) else (x % y, x / y)

-- HI and LO of a signed division: the quotient cut toward zero, the remainder with the dividend's sign
abbrev pub quotient_signed : ℕ → ℕ → ℕ × ℕ
quotient_signed x y =
    if y == 0 then (x, 0)
    else (with_sign (is_negative x) (magnitude x % magnitude y), word (with_sign (signs_differ x y) (magnitude x / magnitude y)))
