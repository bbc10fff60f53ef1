-- How a packet is framed: `$`, a text, `#`, and the sum of the text in two digits.
use Rattle.std.specs.Prelude.{ℕ, ◌+◌, ◌*◌, ◌/◌, ◌%◌, ◌^◌, Bool, ◌==◌, ◌||◌, bit_xor, List, [], ◌∷◌, ◌++◌, flat_map, sum, Option, Some, None, option_and_then, option_map, if◌then◌else◌}
use Rattle.ds_word.specs.Digits.{digit_of}
use Rattle.ds_text.specs.Digits.{lower_hex_digit}

-- `$`, `#`, `}` and `*` are escaped
abbrev pub is_special : ℕ → Bool
is_special b = b == 35 || b == 36 || b == 42 || b == 125

-- a byte of data, or `}` and the byte with bit 5 turned over
abbrev pub escape : ℕ → List ℕ
escape b = if is_special b then 125 ∷ bit_xor b 32 ∷ [] else b ∷ []

-- data as a text
abbrev pub escaped : List ℕ → List ℕ
escaped bytes = flat_map escape bytes

-- the data of a text, in which each `}` stands before the byte that it escapes
abbrev pub unescaped : List ℕ → Option (List ℕ)
unescaped [] = Some []
unescaped (b ∷ []) = if b == 125 then None else Some (b ∷ [])
unescaped (b ∷ c ∷ text) = if b == 125 then option_map (λ bytes. bit_xor c 32 ∷ bytes) (unescaped text) else option_map (λ bytes. b ∷ bytes) (unescaped (c ∷ text))

-- the byte that two hexadecimal digits write
abbrev pub pair_of : ℕ → ℕ → Option ℕ
pair_of high low = option_and_then (λ h. option_map (λ l. h * 16 + l) (digit_of 16 low)) (digit_of 16 high)

-- the two digits of a byte
abbrev pub hex_pair : ℕ → List ℕ
hex_pair n = lower_hex_digit (n / 16) ∷ lower_hex_digit (n % 16) ∷ []

-- the digits of bytes, two each
abbrev pub hex_text : List ℕ → List ℕ
hex_text bytes = flat_map hex_pair bytes

-- a text in its frame
abbrev pub framed : List ℕ → List ℕ
framed text = 36 ∷ (text ++ 35 ∷ hex_pair (sum text % 2 ^ 8))

-- the packet of some data
abbrev pub frame : List ℕ → List ℕ
frame bytes = framed (escaped bytes)
