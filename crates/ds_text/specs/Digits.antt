-- Numbers in hexadecimal digits, the highest first.
use Rattle.std.specs.Prelude.{ℕ, ◌+◌, ◌/◌, ◌%◌, nat_lt, if◌then◌else◌, List, [], ◌∷◌, ◌++◌}

-- the hexadecimal digit of a number below 16
abbrev pub hex_digit : ℕ → ℕ
hex_digit n = if nat_lt n 10 then 48 + n else 55 + n

-- the same in lower case
abbrev pub lower_hex_digit : ℕ → ℕ
lower_hex_digit n = if nat_lt n 10 then 48 + n else 87 + n

-- the two hexadecimal digits of a byte
abbrev pub hex2 : ℕ → List ℕ
hex2 b = hex_digit (b / 16) ∷ hex_digit (b % 16) ∷ []

-- the four hexadecimal digits of a half
unfoldable pub hex4 : ℕ → List ℕ
hex4 n = hex_digit (n / 4096 % 16) ∷ hex_digit (n / 256 % 16) ∷ hex_digit (n / 16 % 16) ∷ hex_digit (n % 16) ∷ []

-- the eight hexadecimal digits of a word
unfoldable pub hex8 : ℕ → List ℕ
hex8 n = hex4 (n / 65536) ++ hex4 (n % 65536)
