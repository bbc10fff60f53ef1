-- Worked choices of lines.
use Rattle.std.specs.Prelude.{codes, refl, ◌≡◌, [], ◌∷◌, map}
use Rattle.std.specs.Fmt.{digits}
use Rattle.ds_explain.specs.Chosen.{chosen_of, end_by}
use Rattle.ds_explain.specs.declared.chosen.Chosen.TheVariants.{All, One}

-- Which lines are told.

pub the_line_of_a_number : map (λ k. chosen_of (One k) ((1 ∷ []) ∷ (2 ∷ []) ∷ [])) (1 ∷ 2 ∷ 3 ∷ []) ≡ ((1 ∷ []) ∷ []) ∷ ((2 ∷ []) ∷ []) ∷ [] ∷ []
the_line_of_a_number = refl

pub what_is_said_of_the_others : end_by All 0 ∷ end_by All 1000 ∷ end_by All 1002 ∷ end_by (One 2) 2 ∷ end_by (One 3) 2 ∷ []
    ≡ codes "The log is empty.\n" ∷ [] ∷ codes "lines not told: 2\n" ∷ [] ∷ codes "lines of the log: 2\n" ∷ []
unfolding digits
what_is_said_of_the_others = refl
