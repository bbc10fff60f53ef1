-- What was lost of an input's characters, by console line.
use Rattle.std.specs.Prelude.{codes, decimal, ℕ, suc, ◌-◌, ◌==◌, if◌then◌else◌, List, [], ◌∷◌, ◌++◌, length, drop, take, slice_index}
use Rattle.ds_policy.specs.declared.command.Character.{Character}
use Rattle.ds_trace.specs.declared.counts.Lossy.{Lossy}
use Rattle.ds_trace.specs.declared.losses.Lost.{Lost}
use Rattle.ds_trace.specs.Counts.{plus}

-- how many of these characters are for a console line
abbrev pub of_line : ℕ → List Character → ℕ
of_line line [] = 0
of_line line (c ∷ rest) = if c.line == line then suc (of_line line rest) else of_line line rest

-- the characters of an input that were due at a boundary: of the last ones, which had not come in before it, those that are gone
abbrev pub due_there : List Character → Lossy → List Character
due_there all x = take (x.before - x.after) (drop (length all - x.before) all)

-- how many it lost on a console line: those that were due, without those that came to its queue
abbrev pub lost_there : List Character → ℕ → Lossy → ℕ
lost_there all line x = of_line line (due_there all x) - slice_index x.taken line

-- nothing was lost
abbrev pub none_lost : Lost
none_lost = record { count = 0; first = 0 }

-- with so many more at a time, which is the first where none were lost before
abbrev pub with_lost : Lost → ℕ → ℕ → Lost
with_lost lost time more = if more == 0 then lost else record { count = plus lost.count more; first = if lost.count == 0 then time else lost.first }

-- with what boundaries lost on a console line, one after another
abbrev pub lost_by : List Character → ℕ → Lost → List Lossy → Lost
lost_by all line lost [] = lost
lost_by all line lost (x ∷ rest) = lost_by all line (with_lost lost x.time (lost_there all line x)) rest

-- one that was lost on a console line
abbrev pub one_lost : ℕ → Lost → List ℕ
one_lost line lost = codes "1 character lost on console " ++ decimal line ++ codes ", at time " ++ decimal lost.first ++ codes "\n"

-- and more
abbrev pub many_lost : ℕ → Lost → List ℕ
many_lost line lost =
    decimal lost.count ++ codes " characters lost on console " ++ decimal line ++ codes ", the first at time " ++ decimal lost.first ++ codes "\n"

-- what is told of a console line, where it lost some
abbrev pub lost_line : ℕ → Lost → List ℕ
lost_line line lost = if lost.count == 0 then [] else (if lost.count == 1 then one_lost line lost else many_lost line lost)

-- and of all four, by the characters of the input and the boundaries that lost some
abbrev pub losses_text : List Character → List Lossy → List ℕ
losses_text all xs =
    lost_line 0 (lost_by all 0 none_lost xs) ++ lost_line 1 (lost_by all 1 none_lost xs) ++ lost_line 2 (lost_by all 2 none_lost xs) ++ lost_line 3 (lost_by all 3 none_lost xs)
