-- The lines of a text by their numbers.
use Rattle.std.specs.Prelude.{codes, ℕ, ◌-◌, List, [], ◌∷◌, ◌++◌, drop}
use Rattle.ds_asm.specs.Assembly.{lines_of}

-- the first of some lines; nothing where there is none
abbrev pub first_line_of : List (List ℕ) → List ℕ
first_line_of [] = []
first_line_of (line ∷ lines) = line

-- the line of this number, from 1, without its line feed
abbrev pub line_at : List ℕ → ℕ → List ℕ
line_at text number = first_line_of (drop (number - 1) (lines_of text))

-- that line as it is shown
abbrev pub shown_line : List ℕ → ℕ → List ℕ
shown_line text number = codes "    " ++ (line_at text number ++ codes "\n")
