-- What a run came to, what is written after its text, and what is told of it.
use Rattle.std.specs.Prelude.{◌≡◌, ◌||◌, ℕ, Bool, true, false, List, [], ◌∷◌, ◌++◌, codes, Option, Some, None}
use Rattle.std.specs.Io.KnownBytes.{Appends}
use Rattle.ds_pagemap.specs.Machine.{State}
use Rattle.ds_refinement.specs.Held.{Held}
use Rattle.ds_station.specs.Outcome.{first_unended}
use Rattle.ds_station.specs.declared.outcome.Unended.{Unended}
use Rattle.ds_station.specs.declared.pieces.Extent.{Extent}
use Rattle.ds_station.specs.declared.pieces.Extent.TheVariants as extent
use Rattle.ds_trace.specs.MustEnd.{unended_line}
use Rattle.ds_words.specs.Windows.{windows_in}
use Rattle.ds_words.specs.declared.windows.Window.{Window}
use Rattle.ds_words.specs.declared.words.Extras.{Extras}
use Rattle.ds_drive.specs.Windows.{windows_text}
use Rattle.ds_drive.specs.declared.outcome.Came.{Came}
use Rattle.ds_drive.specs.declared.outcome.Came.TheVariants as came
use Rattle.ds_drive.specs.declared.outcome.Outcome.{Outcome}

-- how a run was left: how far it went, the station, and a state that the station stands for
pub record Left : Type 0 where
  pub extent : Extent
  pub station : Held
  pub last : State

-- these three
abbrev pub left : Extent → Held → State → Left
left how h m = record { extent = how; station = h; last = m }

-- a process, where all have to end
abbrev pub where_wanted : Bool → Option Unended → Option Unended
where_wanted true u = u
where_wanted false u = None

-- the first process that has not ended, where the words want that all end
abbrev pub unmet : Extras → State → Option Unended
unmet extras m = where_wanted extras.must_end (first_unended m)

-- what a run came to, by how far it went and by that process
abbrev pub came_of : Extent → Option Unended → Came
came_of extent.TooMuch u = came.TooMuch
came_of extent.Whole None = came.Done
came_of extent.Whole (Some u) = came.Unended

-- the line that is told of it, where it is not done
abbrev pub end_told : Extent → Held → Option Unended → List ℕ
end_told extent.TooMuch h u = codes "dsmon: 27 TooMuch\n"
end_told extent.Whole h None = []
end_told extent.Whole h (Some u) = unended_line h u

-- a text, where it is wanted
abbrev pub where_asked : Bool → List ℕ → List ℕ
where_asked false text = []
where_asked true text = text

-- there is a window
abbrev pub has_window : List Window → Bool
has_window [] = false
has_window (w ∷ windows) = true

-- the words want something beside the text of the run
abbrev pub wants_more : Extras → Bool
wants_more extras = extras.must_end || (extras.summary || has_window (windows_in extras.memory))

-- after the text of a run that was left so, the lines of the windows are written; it came to this, of which the summary is told and then the line
pub record IsFollowed (extras : Extras) (summary : List ℕ) (o : Outcome) (between new : Option (List ℕ)) (l : Left) : Type 0 where
  pub memory : Appends between new (windows_text l.last (windows_in extras.memory))
  pub came : o.came ≡ came_of l.extent (unmet extras l.last)
  pub told : o.told.items ≡ summary ++ end_told l.extent l.station (unmet extras l.last)
