-- The last place of a run at which something is found that is sought, on the way back.
use Rattle.std.specs.Prelude.{◌≡◌, ◌≤◌, ℕ, ◌==◌, false, nat_lt, if◌then◌else◌, List, [], ◌∷◌, length, Option, Some, None}
use Rattle.ds_packets.specs.declared.packet.Action.{Action}
use Rattle.ds_packets.specs.declared.packet.Action.TheVariants.{Continue, Step, Range}
use Rattle.ds_pagemap.specs.Machine.{first}
use Rattle.ds_refinement.specs.Held.{Held}
use Rattle.ds_refinement.specs.Runs.{held_goes_on}
use Rattle.ds_debug.specs.Forward.{IsTurn}
use Rattle.ds_debug.specs.Goals.{Aim, Goal, first_changed, stop_after}
use Rattle.ds_debug.specs.Watches.{all_seen}
use Rattle.ds_debug.specs.declared.goals.Stop.{Stop}
use Rattle.ds_debug.specs.declared.places.Began.{Began}
use Rattle.ds_debug.specs.declared.places.Place.{Place}
use Rattle.ds_debug.specs.declared.places.Sought.{Sought}
use Rattle.ds_debug.specs.declared.places.Sought.TheVariants.{LastTurn, LastStop}
use Rattle.ds_debug.specs.declared.watches.Seen.{Seen}
use Rattle.ds_gdb.specs.declared.stops.Reason.TheVariants.{Rest}

-- the earlier of two times
abbrev pub earlier : ℕ → ℕ → ℕ
earlier t n = if nat_lt t n then t else n

-- a step back seeks the last turn of a process, and all else the last stop
abbrev pub sought_by : Action → ℕ → Sought
sought_by Step p = LastTurn p
sought_by Continue p = LastStop
sought_by (Range from to) p = LastStop

-- how a turn begins: when, which process has it, and how many bytes the log has
abbrev pub began_at : Held → Began
began_at h = record { time = h.kept.state.time; runner = first h.kept.state.ready; logged = length h.kept.log }

-- where a turn of this process began, if it is the one that has the turn
abbrev pub turn_place : ℕ → Option ℕ → ℕ → Option Place
turn_place p None time = None
turn_place p (Some q) time = if q == p then Some (record { time = time; stop = record { process = p; reason = Rest } }) else None

-- where something stops, if something does
abbrev pub stop_place : ℕ → Option Stop → Option Place
stop_place time None = None
stop_place time (Some stop) = Some (record { time = time; stop = stop })

-- what stops where a turn that began so, and before which these were seen, has come to: before a time all that stops, and then only what is watched
abbrev pub stop_until : Aim → ℕ → Began → List Seen → Held → Option Stop
stop_until a until began seen new = if nat_lt new.kept.state.time until then stop_after a began.runner began.logged seen new else first_changed a new seen

-- what is found of such a turn, in a run to a time: where it began, or where it came to, which is where a run to that time ends at the latest
abbrev pub place_after : Sought → Aim → ℕ → Began → List Seen → Held → Option Place
place_after (LastTurn p) a until began seen new = turn_place p began.runner began.time
place_after LastStop a until began seen new = stop_place (earlier new.kept.state.time until) (stop_until a until began seen new)

-- the first, or else the second
abbrev pub or_else : Option Place → Option Place → Option Place
or_else None second = second
or_else (Some place) second = Some place

-- the last place that is found on these turns, the newest first
abbrev pub last_place : Sought → Goal → ℕ → List Held → Held → Option Place
last_place s g until [] new = None
last_place s g until (last ∷ before) new = or_else (place_after s g.aim until (began_at last) (all_seen last g.watchpoints) new) (last_place s g until before last)

-- by these turns of a run for n, the newest first
abbrev pub Turns : ℕ → Held → List Held → Held → Type 0
Turns n old [] new = new ≡ old
Turns n old (last ∷ before) new = IsTurn n last new × Turns n old before last

-- by turns of a run to a time, of which this is the last place that is found
pub record HasFound (s : Sought) (g : Goal) (until : ℕ) (place : Option Place) (old new : Held) : Type 0 where
  pub path : List Held
  pub turns : Turns until old path new
  pub last : place ≡ last_place s g until path new

-- and the run to that time is over there; no time has passed since the last turn
pub record Finds (s : Sought) (g : Goal) (until : ℕ) (place : Option Place) (old new : Held) : Type 0 where
  pub last : Held
  pub found : HasFound s g until place old last
  pub still : new.kept.state.time ≤ last.kept.state.time
  pub over : held_goes_on until new ≡ false
