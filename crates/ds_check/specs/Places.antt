-- Places in a text.
use Rattle.std.specs.Prelude.{ℕ, ◌+◌, Bool, ◌&&◌, ◌==◌, nat_le, if◌then◌else◌, List, take}
use Rattle.std.specs.List.{fold}
use Rattle.ds_check.specs.declared.places.Place.{Place}

-- a byte that goes on with a character of UTF-8
abbrev pub is_continuation : ℕ → Bool
is_continuation b = nat_le 128 b && nat_le b 191

-- the place after a byte: a line feed ends a line, and each other character is a column
abbrev pub next_place : Place → ℕ → Place
next_place p b =
    if b == 10 then record { line = p.line + 1; column = 1 }
    else if is_continuation b then p
    else record { line = p.line; column = p.column + 1 }

-- the line and the column, from 1, that stand after so many bytes of a text
abbrev pub place_at : List ℕ → ℕ → Place
place_at text n = fold next_place (record { line = 1; column = 1 }) (take n text)
