-- Texts that are like another, as a word is that was mistyped.
use Rattle.std.specs.Prelude.{ℕ, ◌+◌, Bool, ◌||◌, ◌==◌, bytes_eq, List, drop}
use Rattle.std.specs.List.{common_prefix_len}
use Rattle.std.specs.Str.{str_eq_ignore_ascii_case}

-- how many bytes two texts have in common at their beginnings
abbrev pub common_front : List ℕ → List ℕ → ℕ
common_front a b = common_prefix_len (λ x y. x == y) a b

-- whether two texts are the same after one byte of either, or of both, that follows a front of this length
abbrev pub is_same_but_one : ℕ → List ℕ → List ℕ → Bool
is_same_but_one n a b = bytes_eq (drop (n + 1) a) (drop (n + 1) b) || bytes_eq (drop (n + 1) a) (drop n b) || bytes_eq (drop n a) (drop (n + 1) b)

-- whether two texts differ by one byte, which is another or is missing in one of them
abbrev pub differs_by_one : List ℕ → List ℕ → Bool
differs_by_one a b = is_same_but_one (common_front a b) a b

-- whether two texts differ by upper and lower case alone, or by one byte
unfoldable pub is_like : List ℕ → List ℕ → Bool
is_like a b = str_eq_ignore_ascii_case a b || differs_by_one a b
