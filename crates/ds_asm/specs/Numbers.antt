-- Numbers in a source.
use Rattle.std.specs.Prelude.{codes, ℕ, ◌-◌, ◌%◌, ◌^◌, Bool, true, false, ◌&&◌, ◌==◌, nat_le, bytes_eq, if◌then◌else◌, List, [], ◌∷◌, length, take, drop, Option, Some, None, option_map}
use Rattle.ds_word.specs.Digits.{digits_from}
use Rattle.ds_asm.specs.declared.number.Number.{Number}
use Rattle.ds_asm.specs.declared.number.Bounds.{Bounds}

-- one to ten decimal digits
abbrev pub decimal_of : List ℕ → Option ℕ
decimal_of text = if nat_le 1 (length text) && nat_le (length text) 10 then digits_from 10 9999999999 0 text else None

-- one to eight hexadecimal digits
abbrev pub hexadecimal_of : List ℕ → Option ℕ
hexadecimal_of text = if nat_le 1 (length text) && nat_le (length text) 8 then digits_from 16 4294967295 0 text else None

-- a number without a sign: hexadecimal digits after 0x, or decimal digits
abbrev pub unsigned_of : List ℕ → Option ℕ
unsigned_of text = if bytes_eq (take 2 text) (codes "0x") then hexadecimal_of (drop 2 text) else decimal_of text

-- decimal digits, with a sign before them or none; or hexadecimal digits
abbrev pub written_number : List ℕ → Option Number
written_number [] = None
written_number (c ∷ rest) =
    if c == 45 then option_map (λ n. record { negative = true; magnitude = n }) (decimal_of rest)
    else option_map (λ n. record { negative = false; magnitude = n }) (unsigned_of (c ∷ rest))

-- a number isn't below -least, nor above most
abbrev pub fits_bounds : ℕ → ℕ → Number → Bool
fits_bounds least most n = if n.negative then nat_le n.magnitude least else nat_le n.magnitude most

-- the bounds of a number, unless it is from -least to most
abbrev pub out_of_range : ℕ → ℕ → Number → Option Bounds
out_of_range least most n = if fits_bounds least most n then None else Some (record { least = least; most = most })

-- a number as a word, in two's complement
abbrev pub as_word : Number → ℕ
as_word n = if n.negative then (2 ^ 32 - n.magnitude % 2 ^ 32) % 2 ^ 32 else n.magnitude % 2 ^ 32
