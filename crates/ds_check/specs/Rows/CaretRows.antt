-- Worked carets.
use Rattle.std.specs.Prelude.{codes, refl, ◌≡◌, ◌∷◌, ◌++◌}
use Rattle.ds_check.specs.Carets.{caret_line, place_shown}

pub a_caret_below_the_first_character : caret_line (codes "") ≡ codes "    ^\n"
a_caret_below_the_first_character = refl

pub a_tab_stands_below_a_tab : caret_line (codes "x:\t") ≡ codes "      \t^\n"
a_tab_stands_below_a_tab = refl

-- a letter of two bytes is one column
pub a_letter_with_an_accent : caret_line (0xC3 ∷ 0xA9 ∷ codes " ") ≡ codes "      ^\n"
a_letter_with_an_accent = refl

pub a_place_in_a_line : place_shown (codes "ab\n\tcde" ++ 0xC3 ∷ 0xA9 ∷ codes "f\n") (record { line = 2; column = 6 }) ≡ codes "    \tcde" ++ 0xC3 ∷ 0xA9 ∷ codes "f\n    \t    ^\n"
a_place_in_a_line = refl

-- a text that ends with a line feed has a place after it
pub a_place_after_the_last_line : place_shown (codes "ab\n") (record { line = 2; column = 1 }) ≡ codes "    \n    ^\n"
a_place_after_the_last_line = refl
