-- Worked places.
use Rattle.std.specs.Prelude.{codes, refl, ◌≡◌, [], ◌∷◌, ◌++◌, map}
use Rattle.ds_check.specs.Places.{place_at}

-- a character of two bytes is one column
pub places_in_a_text : map (place_at (codes "ab\nc" ++ 0xC3 ∷ 0xA9 ∷ codes "d")) (0 ∷ 1 ∷ 2 ∷ 3 ∷ 4 ∷ 6 ∷ 7 ∷ [])
    ≡ record { line = 1; column = 1 } ∷ record { line = 1; column = 2 } ∷ record { line = 1; column = 3 } ∷ record { line = 2; column = 1 }
    ∷ record { line = 2; column = 2 } ∷ record { line = 2; column = 3 } ∷ record { line = 2; column = 4 } ∷ []
places_in_a_text = refl
