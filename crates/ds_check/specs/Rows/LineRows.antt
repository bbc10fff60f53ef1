-- Worked lines of a text.
use Rattle.std.specs.Prelude.{refl, codes, ◌≡◌, [], ◌∷◌}
use Rattle.ds_check.specs.Lines.{line_at, shown_line}

pub lines_count_from_1 : line_at (codes "nop\nwalk\n") 1 ∷ line_at (codes "nop\nwalk\n") 2 ∷ line_at (codes "nop\nwalk") 2 ∷ line_at (codes "nop\nwalk\n") 3 ∷ line_at [] 1 ∷ []
    ≡ codes "nop" ∷ codes "walk" ∷ codes "walk" ∷ [] ∷ [] ∷ []
lines_count_from_1 = refl

pub a_line_is_shown_after_four_blanks : shown_line (codes "nop\n\twalk\r\n") 2 ≡ codes "    \twalk\r\n"
a_line_is_shown_after_four_blanks = refl
