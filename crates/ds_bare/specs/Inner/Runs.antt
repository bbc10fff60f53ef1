-- A run of the bare machine, and its text.
use Rattle.std.specs.Prelude.{◌≡◌, ℕ, List, ◌++◌, Option}
use Rattle.std.specs.Io.KnownBytes.{Appends}

-- a part of a text is written, and the rest of it is to come
pub record IsUnderWay (old now : Option (List ℕ)) (rest whole : List ℕ) : Type 0 where
  pub written : List ℕ
  pub appends : Appends old now written
  pub goes_on : written ++ rest ≡ whole
