-- A key that no policy has, and the one that is meant by it.
use Rattle.std.specs.Prelude.{codes, decimal, ℕ, ◌+◌, ◌-◌, Bool, false, ◌&&◌, ◌||◌, ◌==◌, nat_le, bytes_eq, if◌then◌else◌, List, [], ◌∷◌, ◌++◌, length, take, drop, Option, None, Some, option_map}
use Rattle.std.specs.List.{ends_with, find, list_any, prefix_len}
use Rattle.std.specs.Option.{option_or}
use Rattle.ds_asm.specs.Assembly.{lines_of}
use Rattle.ds_asm.specs.Characters.{is_digit, is_letter, without_front_blanks}
use Rattle.ds_source_reasons.specs.Likeness.{is_like}
use Rattle.ds_policy_reasons.specs.declared.keys.TheConstants as constants

-- whether a key may hold a byte
abbrev pub is_of_key : ℕ → Bool
is_of_key c = is_letter c || is_digit c || c == 45

-- what a line says after the blanks and the brackets at its front
abbrev pub key_text : List ℕ → List ℕ
key_text line = drop (prefix_len (λ c. c == 91) (without_front_blanks line)) (without_front_blanks line)

-- whether a key ends before this: before `=`, or before the bracket behind the name of a table
abbrev pub ends_key : List ℕ → Bool
ends_key [] = false
ends_key (c ∷ cs) = c == 61 || c == 93

-- the key that a text begins with
abbrev pub key_in : List ℕ → Option (List ℕ)
key_in text =
    if nat_le 1 (prefix_len is_of_key text) && ends_key (without_front_blanks (drop (prefix_len is_of_key text) text)) then Some (take (prefix_len is_of_key text) text)
    else None

-- whether a policy, a process, a page or a rule has a key of this name
abbrev pub is_key : List ℕ → Bool
is_key name = list_any (λ k. bytes_eq k.now name) constants.KEYS

-- a key that no policy has, with its line and its column, both from 1
pub record OddKey : Type 0 where
  pub name : List ℕ
  pub line : ℕ
  pub column : ℕ

-- the key of line n, if it is none of a policy
abbrev pub odd_one : ℕ → List ℕ → Option (List ℕ) → Option OddKey
odd_one n line None = None
odd_one n line (Some name) = if is_key name then None else Some (record { name = name; line = n; column = length line - length (key_text line) + 1 })

-- the first key that no policy has, in lines of which the first is line n
abbrev pub first_odd : ℕ → List (List ℕ) → Option OddKey
first_odd n [] = None
first_odd n (line ∷ lines) = option_or (odd_one n line (key_in (key_text line))) (first_odd (n + 1) lines)

-- the first key of a text that no policy has
unfoldable pub odd_key : List ℕ → Option OddKey
odd_key text = first_odd 1 (lines_of text)

-- whether a name is a key with an `es` at its end
abbrev pub is_plural : List ℕ → List ℕ → Bool
is_plural name key = ends_with (λ a b. a == b) name (codes "es") && bytes_eq (take (length name - 2) name) key

-- whether a key is meant by a name: they differ by upper and lower case alone, by one byte, or by an `es` at the end
abbrev pub is_meant : List ℕ → List ℕ → Bool
is_meant name key = is_like name key || is_plural name key

-- what is said of a key that no policy has: the first that may be meant by it, or that it is left out
abbrev pub meant_text : Option (List ℕ) → List ℕ
meant_text None = constants.NO_KEY.now
meant_text (Some key) = constants.MEANT_KEY.now ++ key ++ constants.AFTER_MEANT_KEY.now

-- the first key that may be meant by a name
abbrev pub meant_key : List ℕ → Option (List ℕ)
meant_key name = option_map (λ t. t.now) (find (λ k. is_meant name k.now) constants.KEYS)

-- the words of a key that no policy has
unfoldable pub odd_key_text : OddKey → List ℕ
odd_key_text k = codes "`" ++ take 40 k.name ++ constants.IN_LINE.now ++ decimal k.line ++ meant_text (meant_key k.name)
