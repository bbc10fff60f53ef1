-- Numbers written in digits.
use Rattle.std.specs.Prelude.{ℕ, ◌+◌, ◌-◌, ◌*◌, ◌&&◌, ◌==◌, nat_le, List, [], ◌∷◌, Option, Some, None, option_and_then, if◌then◌else◌}

-- what a digit stands for, in a base of ten or sixteen
abbrev pub digit_of : ℕ → ℕ → Option ℕ
digit_of base c =
    if nat_le 48 c && nat_le c 57 then Some (c - 48)
    else if base == 16 && (nat_le 65 c && nat_le c 70) then Some (c - 55)
    else if base == 16 && (nat_le 97 c && nat_le c 102) then Some (c - 87)
    else None

-- the number that goes on with these digits, if it stays within the limit
unfoldable pub digits_from : ℕ → ℕ → ℕ → List ℕ → Option ℕ
digits_from base limit n [] = Some n
digits_from base limit n (c ∷ cs) = option_and_then (λ d. if nat_le (n * base + d) limit then digits_from base limit (n * base + d) cs else None) (digit_of base c)
