-- Which lines of a log are told, and what is said of the others.
use Rattle.std.specs.Prelude.{codes, decimal, ℕ, ◌-◌, ◌==◌, nat_le, nat_lt, if◌then◌else◌, List, [], ◌++◌, length, take, drop}
use Rattle.ds_explain.specs.declared.chosen.Chosen.{Chosen}
use Rattle.ds_explain.specs.declared.chosen.Chosen.TheVariants.{All, One}

-- how many lines are passed over
abbrev pub skipped : Chosen → ℕ
skipped All = 0
skipped (One number) = number - 1

-- how many are told at most
abbrev pub most_of : Chosen → ℕ
most_of All = 1000
most_of (One number) = 1

-- the lines that are told: the first 1,000, or the one of a number
abbrev pub chosen_of : Chosen → List (List ℕ) → List (List ℕ)
chosen_of c lines = take (most_of c) (drop (skipped c) lines)

-- how many are not told, where there are some, or that there is none at all
abbrev pub others_text : ℕ → List ℕ
others_text count =
    if count == 0 then codes "The log is empty.\n"
    else if nat_le count 1000 then []
    else codes "lines not told: " ++ decimal (count - 1000) ++ codes "\n"

-- what is said of those that are not told, by how many there are: where the one that is wanted is not there, how many there are
abbrev pub end_by : Chosen → ℕ → List ℕ
end_by All count = others_text count
end_by (One number) count = if nat_lt (number - 1) count then [] else codes "lines of the log: " ++ decimal count ++ codes "\n"

-- the same of the lines of a log
abbrev pub chosen_end_text : Chosen → List (List ℕ) → List ℕ
chosen_end_text c lines = end_by c (length lines)
