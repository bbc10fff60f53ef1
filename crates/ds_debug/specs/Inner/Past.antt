-- From where a session looks back.
use Rattle.std.specs.Prelude.{◌≡◌, ◌≤◌, ℕ, false, List, Option, None}
use Rattle.std.specs.List.{All}
use Rattle.ds_refinement.specs.Held.{Held}
use Rattle.ds_station.specs.Inner.Station.{StationValue}
use Rattle.ds_debug.specs.Goals.{Goal}
use Rattle.ds_debug.specs.Inputs.{IsBeginning, RunInputs}
use Rattle.ds_debug.specs.Inner.Inputs.{IsReached}
use Rattle.ds_debug.specs.Places.{Finds}
use Rattle.ds_debug.specs.declared.places.Place.{Place}
use Rattle.ds_debug.specs.declared.places.Sought.{Sought}

-- between two turns of a run of these for n
pub record IsKept (i : RunInputs) (n : ℕ) (h : Held) : Type 0 where
  pub reached : IsReached i n h
  pub whole : h.kept.state.owed ≡ None
  pub spent : h.own.spent ≡ 0
  pub working : h.own.failed ≡ false

-- what a run begins with, and up to which time it goes
pub record PastState : Type 0 where
  pub inputs : RunInputs
  pub limit : ℕ

-- of a run of these for n its beginning is kept, and later states
pub record IsPast (i : RunInputs) (n : ℕ) (start : Held) (later : List StationValue) : Type 0 where
  pub limit : n ≤ 1000000000
  pub begins : IsBeginning i n start
  pub first : IsKept i n start
  pub kept : All (λ s. IsKept i n s.held) later

-- a run from here, up to a time, has this place as the last that is found
pub record FindsFrom (s : Sought) (g : Goal) (until : ℕ) (place : Option Place) (old : Held) : Type 0 where
  pub last : Held
  pub finds : Finds s g until place old last
