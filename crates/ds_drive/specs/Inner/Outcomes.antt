-- What a run came to, what is written after its text, and what is told of it.
use Rattle.std.specs.Prelude.{ℕ, Bool, true}
use Rattle.ds_station.specs.declared.pieces.Extent.{Extent}
use Rattle.ds_station.specs.declared.pieces.Extent.TheVariants as extent
use Rattle.ds_words.specs.declared.words.Extras.{Extras}
use Rattle.ds_drive.specs.declared.outcome.Came.{Came}
use Rattle.ds_drive.specs.declared.outcome.Came.TheVariants as came
use Rattle.ds_drive.specs.Outcomes.{wants_more}

-- the status by what a run came to
abbrev pub came_status : Came → ℕ
came_status came.Done = 0
came_status came.Unended = 4
came_status came.TooMuch = 3

-- so, or it was left with too much
abbrev pub is_more : Extras → Extent → Bool
is_more extras extent.Whole = wants_more extras
is_more extras extent.TooMuch = true
