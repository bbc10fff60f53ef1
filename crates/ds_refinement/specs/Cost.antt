-- What a unit can meet, and the instructions that it takes.
use Rattle.std.specs.Prelude.{ℕ, ◌+◌, ◌*◌, Bool}
use Rattle.ds_word.specs.Word.{truth}

-- what of a unit has been met: data where it stood before a touch; then of the fetch, the slot and the data the refill of the page and
-- the double miss of its table; a copy that was put off
pub record Met : Type 0 where
  pub early : Bool
  pub fetch : Bool
  pub fetch_table : Bool
  pub slot : Bool
  pub slot_table : Bool
  pub access : Bool
  pub access_table : Bool
  pub copied : Bool

-- a refill takes the nine words, a double miss the first three of them, a copy none; each takes the instructions of the user that go to waste besides
abbrev pub cost : Met → ℕ
cost m =
    11 * truth m.early + 10 * truth m.fetch + 4 * truth m.fetch_table + 11 * truth m.slot + 5 * truth m.slot_table
    + 11 * truth m.access + 5 * truth m.access_table + 2 * truth m.copied
