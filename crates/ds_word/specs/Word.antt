-- 32-bit words as numbers.
use Rattle.std.specs.Prelude.{ℕ, ◌+◌, ◌-◌, ◌/◌, ◌%◌, ◌^◌, Bool, nat_lt, nat_le, if◌then◌else◌}

-- the word that a number is modulo 2^32
abbrev pub word : ℕ → ℕ
word n = n % 2 ^ 32

-- bits lo to lo + width - 1
abbrev pub bits : ℕ → ℕ → ℕ → ℕ
bits w lo width = w / 2 ^ lo % 2 ^ width

-- a truth as a number: 1 where it holds, else 0
abbrev pub truth : Bool → ℕ
truth b = if b then 1 else 0

-- the bit at a place of a word, where it is set, else 0
abbrev pub bit : ℕ → Bool → ℕ
bit at set = if set then 2 ^ at else 0

-- a number of so many bits with its sign carried to 32
abbrev pub sign_extended : ℕ → ℕ → ℕ
sign_extended width n = if nat_lt n (2 ^ (width - 1)) then n else n + (2 ^ 32 - 2 ^ width)

-- the signed number is below 0
abbrev pub is_negative : ℕ → Bool
is_negative a = nat_le (2 ^ 31) a

-- the difference, modulo 2^32
abbrev pub minus : ℕ → ℕ → ℕ
minus a b = word (a + (2 ^ 32 - b))

-- the signed number with its sign turned
abbrev pub negated : ℕ → ℕ
negated a = minus 0 a

-- the signed number without its sign
abbrev pub magnitude : ℕ → ℕ
magnitude a = if is_negative a then negated a else a

-- signed order is the unsigned one with the top bits flipped
abbrev pub signed_lt : ℕ → ℕ → Bool
signed_lt a b = nat_lt (word (a + 2 ^ 31)) (word (b + 2 ^ 31))
