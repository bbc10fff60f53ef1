-- Packets after which a session goes back.
use Rattle.std.specs.Prelude.{◌≡◌, ℕ, ◌==◌, if◌then◌else◌, List, [], ◌++◌, Option, Some, None}
use Rattle.ds_packets.specs.Framing.{frame}
use Rattle.ds_packets.specs.declared.packet.Action.{Action}
use Rattle.ds_packets.specs.declared.packet.Action.TheVariants.{Continue}
use Rattle.ds_refinement.specs.Held.{Held}
use Rattle.ds_debug.specs.Goals.{Goal}
use Rattle.ds_debug.specs.Inputs.{IsAt, IsBeginning, RunInputs}
use Rattle.ds_debug.specs.Places.{Finds, earlier, sought_by}
use Rattle.ds_debug.specs.Resumes.{asked_of, goal_of}
use Rattle.ds_debug.specs.Sessions.{SessionState, named_or}
use Rattle.ds_gdb.specs.Stops.{stop_text}
use Rattle.ds_debug.specs.Times.{asked_place}
use Rattle.ds_debug.specs.declared.places.Place.{Place}
use Rattle.ds_debug.specs.declared.places.Sought.{Sought}
use Rattle.ds_debug.specs.declared.places.Sought.TheVariants.{LastTurn, LastStop}
use Rattle.ds_gdb.specs.declared.stops.Reason.{Reason}
use Rattle.ds_gdb.specs.declared.stops.Reason.TheVariants.{Begin, Signal}

-- the process that goes back: the one that is named to go, or else the one that is looked at
abbrev pub process_going_back : SessionState → ℕ
process_going_back s = named_or s.going s.process

-- up to when a run is looked through: to the time of the session, or to the end of the run
abbrev pub looked_until : SessionState → ℕ
looked_until s = earlier s.held.kept.state.time s.limit

-- to which time it goes back: without a place, to the beginning where the last stop was sought; a process without a turn stays
abbrev pub back_time : Sought → Option Place → Option ℕ
back_time s (Some place) = Some place.time
back_time LastStop None = Some 0
back_time (LastTurn p) None = None

-- of which process it is told
abbrev pub back_process : ℕ → Option Place → ℕ
back_process p None = p
back_process p (Some place) = place.stop.process

-- a process without a turn: at the beginning of the run, and else SIGINT
abbrev pub turnless_reason : ℕ → Reason
turnless_reason time = if time == 0 then Begin else Signal 2

-- and why it stands, where the session was at this time
abbrev pub back_reason : Sought → ℕ → Option Place → Reason
back_reason s time (Some place) = place.stop.reason
back_reason LastStop time None = Begin
back_reason (LastTurn p) time None = turnless_reason time

-- a run of these for n, up to a time, has this place as the last that is found
pub record FindsIn (i : RunInputs) (n : ℕ) (s : Sought) (g : Goal) (until : ℕ) (place : Option Place) : Type 0 where
  pub start : Held
  pub last : Held
  pub begins : IsBeginning i n start
  pub finds : Finds s g until place start last

-- a run of these to a time ends there; without a time, the run has not gone on
abbrev pub ComesBack : RunInputs → ℕ → Held → Option ℕ → Held → Type 0
ComesBack i n old None new = new ≡ old
ComesBack i n old (Some time) new = IsAt i n time new

-- the session goes back to the last place before its own that is found in a run of its inputs, or to a time that is asked for, and tells where it came; without a place, of this process
pub record ReturnsBy (s : Sought) (process : ℕ) (old new : SessionState) (before after : List ℕ) : Type 0 where
  pub found : Option Place
  pub finds : FindsIn old.inputs old.limit s (goal_of (Some Continue) [] old) (looked_until old) found
  pub place : Option Place
  pub asked : place ≡ asked_place s old.stop_at (looked_until old) process found
  pub comes : ComesBack old.inputs old.limit old.held (back_time s place) new.held
  pub rest : new ≡ record old { held = new.held; process = back_process process place; stop_at = asked_of old new.held }
  pub told : after ≡ before ++ frame (stop_text new.process (back_reason s old.held.kept.state.time place))

-- by an action
abbrev pub Returns : Action → SessionState → SessionState → List ℕ → List ℕ → Type 0
Returns action old = ReturnsBy (sought_by action (process_going_back old)) (process_going_back old) old
