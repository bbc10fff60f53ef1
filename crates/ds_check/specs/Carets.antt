-- A caret below a shown line.
use Rattle.std.specs.Prelude.{codes, ℕ, ◌+◌, ◌-◌, ◌==◌, if◌then◌else◌, List, [], ◌∷◌, ◌++◌, flat_map, take}
use Rattle.ds_check.specs.declared.places.Place.{Place}
use Rattle.ds_check.specs.Lines.{line_at, shown_line}
use Rattle.ds_check.specs.Places.{is_continuation}

-- what stands beneath a byte that stands before a caret: a tab beneath a tab, a blank beneath any other character, and nothing beneath a byte that goes on with one
abbrev pub beneath : ℕ → List ℕ
beneath c = if c == 9 then 9 ∷ [] else if is_continuation c then [] else 32 ∷ []

-- the line below a shown line, with a caret after so much of that line
abbrev pub caret_line : List ℕ → List ℕ
caret_line front = codes "    " ++ (flat_map beneath front ++ codes "^\n")

-- where k characters end, in bytes that begin at place n
abbrev pub characters_end : ℕ → ℕ → List ℕ → ℕ
characters_end n k [] = n
characters_end n k (b ∷ line) = if k == 0 then n else characters_end (n + 1) (if is_continuation b then k else k - 1) line

-- so many characters of a line
abbrev pub first_characters : ℕ → List ℕ → List ℕ
first_characters k line = take (characters_end 0 k line) line

-- the line of a place as it is shown, and below it a caret at its column
abbrev pub place_shown : List ℕ → Place → List ℕ
place_shown text p = shown_line text p.line ++ caret_line (first_characters (p.column - 1) (line_at text p.line))
