-- Worked words of refusals.
use Rattle.std.specs.Prelude.{codes, refl, ◌≡◌, true, false, [], ◌∷◌, map, Some, is_some}
use Rattle.ds_check.specs.Mending.{mended}

pub a_double_label_is_mended : mended 5 ≡ Some (codes "An earlier line has the label already: with `x: nop` in line 1 and again in\nline 2, line 2 is told.\n")
a_double_label_is_mended = refl

-- no reader of a policy, a source or an input meets the others
pub which_are_mended : map (λ n. is_some (mended n)) (0 ∷ 1 ∷ 2 ∷ 3 ∷ 7 ∷ 8 ∷ 10 ∷ 11 ∷ 19 ∷ 20 ∷ 21 ∷ 23 ∷ 24 ∷ 26 ∷ 27 ∷ [])
    ≡ false ∷ true ∷ false ∷ true ∷ true ∷ true ∷ true ∷ false ∷ false ∷ true ∷ false ∷ false ∷ true ∷ true ∷ false ∷ []
which_are_mended = refl

-- a check runs nothing
pub want_of_memory_speaks_of_no_run : mended 25 ≡ Some (codes "The host has no memory left. End other programs there, or raise the limit\nthat the shell sets by `ulimit -v`.\n")
want_of_memory_speaks_of_no_run = refl
