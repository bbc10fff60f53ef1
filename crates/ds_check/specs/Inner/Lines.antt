-- The lines of a text by their numbers.
use Rattle.std.specs.Prelude.{◌≡◌, ℕ, ◌-◌, ◌≤◌, List, drop}
use Rattle.ds_asm.specs.Assembly.{lines_of}

-- what is left of a text, from the line of this number on
abbrev pub StandAt : List ℕ → ℕ → List ℕ → Type 0
StandAt text number rest = (1 ≤ number) × (lines_of rest ≡ drop (number - 1) (lines_of text))
