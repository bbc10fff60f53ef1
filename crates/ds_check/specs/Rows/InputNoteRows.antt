-- Worked notes on an input.
use Rattle.std.specs.Prelude.{refl, ◌≡◌, ℕ, List, [], ◌∷◌, ◌++◌, replicate}
use Rattle.ds_policy.specs.declared.command.Character.{Character}
use Rattle.ds_check.specs.InputNotes.{crowds}

-- so many characters at a time, on a line
abbrev keys : ℕ → ℕ → ℕ → List Character
keys count time line = replicate count (record { time = time; line = line; byte = 65 })

pub nothing_comes_in : crowds [] ≡ []
nothing_comes_in = refl

pub a_boundary_takes_64 : crowds (keys 64 5 0) ≡ []
a_boundary_takes_64 = refl

pub the_65th_is_lost : crowds (keys 65 5 0) ≡ record { time = 5; count = 65 } ∷ []
the_65th_is_lost = refl

pub lines_of_one_time_count_together : crowds (keys 40 5 0 ++ keys 40 5 1) ≡ record { time = 5; count = 80 } ∷ []
lines_of_one_time_count_together = refl

pub each_time_counts_by_itself : crowds (keys 64 5 0 ++ (keys 70 6 0 ++ (keys 64 7 0 ++ keys 66 8 3))) ≡ record { time = 6; count = 70 } ∷ record { time = 8; count = 66 } ∷ []
each_time_counts_by_itself = refl
