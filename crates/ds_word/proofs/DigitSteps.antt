-- One step over the digits of a number.
use Rattle.std.proofs.Common.{◌≡◌, ℕ, ◌+◌, ◌*◌, ◌<◌, ◌≤◌, nat_le, List, length, get_or, drop, Some, None, option_and_then, if◌then◌else◌}
use Rattle.std.proofs.lemmas.List.{drop_all, drop_more}
use Rattle.ds_word.specs.Digits.{digit_of, digits_from}

-- the next digit
pub digits_step : (base limit n : ℕ) (cs : List ℕ) (i : ℕ) → i < length cs
    → digits_from base limit n (drop i cs) ≡ option_and_then (λ d. if nat_le (n * base + d) limit then digits_from base limit (n * base + d) (drop (i + 1) cs) else None) (digit_of base (get_or cs i 0))
unfolding digits_from
digits_step base limit n cs i h = rw (drop_more cs i 0 h)

-- after the last digit
pub digits_end : (base limit n : ℕ) (cs : List ℕ) (i : ℕ) → length cs ≤ i → digits_from base limit n (drop i cs) ≡ Some n
unfolding digits_from
digits_end base limit n cs i h = rw (drop_all i cs h)
