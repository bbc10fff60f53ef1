-- Characters of a source, and the parts of a line.
use Rattle.std.specs.Prelude.{ℕ, ◌-◌, Bool, false, ◌&&◌, ◌||◌, ◌==◌, nat_le, nat_lt, if◌then◌else◌, List, [], ◌∷◌, length, take, drop, Option, Some, None}
use Rattle.std.specs.List.{list_all, prefix_len, suffix_len, position_or_len, before_first, after_first}

-- space, tab and carriage return
abbrev pub is_blank : ℕ → Bool
is_blank c = (c == 32 || c == 9) || c == 13

-- a to z, A to Z and the underscore
abbrev pub is_letter : ℕ → Bool
is_letter c = ((nat_le 97 c && nat_le c 122) || (nat_le 65 c && nat_le c 90)) || c == 95

-- 0 to 9
abbrev pub is_digit : ℕ → Bool
is_digit c = nat_le 48 c && nat_le c 57

-- a letter, and then at most 31 letters and digits
abbrev pub is_name : List ℕ → Bool
is_name [] = false
is_name (c ∷ rest) = is_letter c && nat_le (length rest) 31 && list_all (λ d. is_letter d || is_digit d) rest

-- a text without the blanks at its front
abbrev pub without_front_blanks : List ℕ → List ℕ
without_front_blanks text = drop (prefix_len is_blank text) text

-- a text without the blanks at its end
abbrev pub without_back_blanks : List ℕ → List ℕ
without_back_blanks text = take (length text - suffix_len is_blank text) text

-- without the blanks at both ends
abbrev pub trimmed : List ℕ → List ℕ
trimmed text = without_back_blanks (without_front_blanks text)

-- what stands before the first blank
abbrev pub first_word : List ℕ → List ℕ
first_word text = before_first is_blank text

-- what stands after the first word of a text and its blanks
abbrev pub after_word : List ℕ → List ℕ
after_word text = without_front_blanks (drop (position_or_len is_blank text) text)

-- what stands before the first of these characters, or everything
abbrev pub until : ℕ → List ℕ → List ℕ
until c text = before_first (λ b. b == c) text

-- what stands after the first of these characters, if there is one
abbrev pub text_after : ℕ → List ℕ → Option (List ℕ)
text_after c text = if nat_lt (position_or_len (λ b. b == c) text) (length text) then Some (after_first (λ b. b == c) text) else None
