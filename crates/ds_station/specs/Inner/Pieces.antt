-- A run in pieces, and a bound of what it may write.
use Rattle.std.specs.Prelude.{◌≡◌, ◌<◌, ◌≤◌, ℕ, List, Option, None}
use Rattle.std.specs.Io.KnownBytes.{Appends}
use Rattle.ds_pagemap.specs.Machine.{State}
use Rattle.ds_pagemap.specs.Run.{Reaches}
use Rattle.ds_pagemap.specs.Text.{state_text}
use Rattle.ds_refinement.specs.Held.{Held}
use Rattle.ds_refinement.specs.Stands.{Stands}
use Rattle.ds_station.specs.Inner.Outcome.{WritesBy}
use Rattle.ds_station.specs.declared.pieces.Extent.{Extent}
use Rattle.ds_station.specs.declared.pieces.Extent.TheVariants.{Whole, TooMuch}
use Rattle.ds_station.specs.Pieces.{size_of_state}

-- a run for n from the first state was left between two turns, in a state with more bytes than these for which the station
-- stands, and its text so far is written
pub record WritesTooMuch (most : ℕ) (h : Held) (old new : Option (List ℕ)) (n : ℕ) (first : State) : Type 0 where
  pub last : State
  pub reached : Reaches n first last
  pub whole : last.owed ≡ None
  pub much : most < size_of_state last
  pub stands : Stands h last
  pub written : Appends old new (state_text last)

-- it has ended with no more bytes than these, and its text is written
pub record WritesWithin (most : ℕ) (h : Held) (old new : Option (List ℕ)) (n : ℕ) (first : State) : Type 0 where
  pub by : WritesBy h old new n first
  pub few : size_of_state by.last ≤ most

-- one of the two, by how far it went
abbrev pub WritesUpTo : Extent → ℕ → Held → Option (List ℕ) → Option (List ℕ) → ℕ → State → Type 0
WritesUpTo Whole = WritesWithin
WritesUpTo TooMuch = WritesTooMuch
