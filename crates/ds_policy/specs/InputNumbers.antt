-- Numbers and bytes in the words of an input.
use Rattle.std.specs.Prelude.{ℕ, ◌+◌, ◌-◌, ◌*◌, ◌^◌, ◌&&◌, ◌==◌, nat_le, List, [], ◌∷◌, length, Option, Some, None, option_and_then, option_map, if◌then◌else◌}
use Rattle.ds_word.specs.Digits.{digit_of, digits_from}

-- one to ten decimal digits of a number within the limit
abbrev pub decimal_of : ℕ → List ℕ → Option ℕ
decimal_of limit word = if nat_le 1 (length word) && nat_le (length word) 10 then digits_from 10 limit 0 word else None

-- eight hexadecimal digits
abbrev pub address_of : List ℕ → Option ℕ
address_of word = if length word == 8 then digits_from 16 (2 ^ 32 - 1) 0 word else None

-- the byte of two hexadecimal digits
abbrev pub pair_of : ℕ → ℕ → Option ℕ
pair_of a b = option_and_then (λ high. option_map (λ low. high * 16 + low) (digit_of 16 b)) (digit_of 16 a)

-- the bytes of pairs of hexadecimal digits
unfoldable pub pairs_of : List ℕ → Option (List ℕ)
pairs_of [] = Some []
pairs_of (a ∷ []) = None
pairs_of (a ∷ b ∷ rest) = option_and_then (λ byte. option_map (λ bytes. byte ∷ bytes) (pairs_of rest)) (pair_of a b)

-- 1 to 256 bytes
abbrev pub written_bytes : List ℕ → Option (List ℕ)
written_bytes word = if nat_le 2 (length word) && nat_le (length word) 512 then pairs_of word else None
