-- A file's name as it is shown, in one line and without control characters.
use Rattle.std.specs.Prelude.{codes, ℕ, ◌/◌, ◌%◌, ◌||◌, nat_lt, ◌==◌, if◌then◌else◌, List, [], ◌∷◌, ◌++◌}
use Rattle.std.specs.List.{flat_map}
use Rattle.ds_text.specs.Digits.{lower_hex_digit}

-- how a byte of a name is shown: a line feed by its letter, another control character by its number
abbrev pub shown_byte : ℕ → List ℕ
shown_byte b =
    if b == 10 then codes "\\n" else
    if nat_lt b 32 || (b == 127) then codes "\\x" ++ (lower_hex_digit (b / 16) ∷ lower_hex_digit (b % 16) ∷ []) else b ∷ []

-- a name as it is shown
unfoldable pub shown_name : List ℕ → List ℕ
shown_name name = flat_map shown_byte name
