-- What stops a run that goes forward.
use Rattle.std.specs.Prelude.{ℕ, ◌&&◌, Bool, is_some, if◌then◌else◌, List, [], ◌∷◌, slice_index_or, drop, Option, Some, None}
use Rattle.ds_packets.specs.declared.packet.Action.{Action}
use Rattle.ds_pagemap.specs.Machine.{first}
use Rattle.ds_refinement.specs.Held.{Held}
use Rattle.ds_station.specs.Reads.{address_held}
use Rattle.ds_debug.specs.Answers.{is_there}
use Rattle.ds_debug.specs.Sights.{sight_held}
use Rattle.ds_debug.specs.Denials.{signal_told}
use Rattle.ds_gdb.specs.Points.{is_break}
use Rattle.ds_gdb.specs.Steps.{is_done}
use Rattle.ds_debug.specs.Watches.{is_new, value_at}
use Rattle.ds_gdb.specs.declared.points.Breakpoint.{Breakpoint}
use Rattle.ds_debug.specs.declared.goals.Stop.{Stop}
use Rattle.ds_gdb.specs.declared.stops.Reason.TheVariants.{Rest, Break, Watch, Signal}
use Rattle.ds_debug.specs.declared.watches.Seen.{Seen}
use Rattle.ds_gdb.specs.declared.points.Watchpoint.{Watchpoint}

-- how far each process is to go, by its number, and the breakpoints
pub record Aim : Type 0 where
  pub actions : List (Option Action)
  pub breakpoints : List Breakpoint

-- that, and what is watched
pub record Goal : Type 0 where
  pub aim : Aim
  pub watchpoints : List Watchpoint

-- these actions, breakpoints and watches
abbrev pub goal_with : List (Option Action) → List Breakpoint → List Watchpoint → Goal
goal_with actions breakpoints watchpoints = record { aim = record { actions = actions; breakpoints = breakpoints }; watchpoints = watchpoints }

-- how far a process is to go, if it is named and there
abbrev pub wanted_action : List (Option Action) → Held → ℕ → Option Action
wanted_action actions h p = if is_there (sight_held h) p then slice_index_or actions p None else None

-- it stops by what it was denied, or where it has gone so far
abbrev pub stop_by : ℕ → Option ℕ → Bool → Option Stop
stop_by p (Some signal) done = Some (record { process = p; reason = Signal signal })
stop_by p None done = if done then Some (record { process = p; reason = Rest }) else None

-- what stops the process of a unit; what came to the log since it began tells what it was denied
abbrev pub unit_stop_by : Option Action → ℕ → ℕ → List ℕ → Option Stop
unit_stop_by None p pc grown = None
unit_stop_by (Some action) p pc grown = stop_by p (signal_told grown) (is_done action pc)

-- by who ran
abbrev pub unit_stop : Aim → Option ℕ → ℕ → Held → Option Stop
unit_stop a None logged h = None
unit_stop a (Some p) logged h = unit_stop_by (wanted_action a.actions h p) p (address_held h p) (drop logged h.kept.log)

-- what stops the one that runs next
abbrev pub break_stop : Aim → Option ℕ → Held → Option Stop
break_stop a None h = None
break_stop a (Some p) h =
    if is_some (wanted_action a.actions h p) && is_break a.breakpoints p (address_held h p) then Some (record { process = p; reason = Break }) else None

-- the first, or else the second
abbrev pub or_else : Option Stop → Option Stop → Option Stop
or_else None second = second
or_else (Some stop) second = Some stop

-- a byte of a process that is named and there is not as it was seen
abbrev pub has_changed : Aim → Held → Seen → Bool
has_changed a h s = is_some (wanted_action a.actions h s.watchpoint.process) && is_new s.value (value_at h s.watchpoint s.index)

-- the process that watches stops, whoever wrote
abbrev pub watch_stop : Watchpoint → Stop
watch_stop w = record { process = w.process; reason = Watch w.address }

-- what stops by the first byte that has changed since these were seen
abbrev pub first_changed : Aim → Held → List Seen → Option Stop
first_changed a h [] = None
first_changed a h (s ∷ seen) = if has_changed a h s then Some (watch_stop s.watchpoint) else first_changed a h seen

-- what stops the process that ran, or else the one that runs next
abbrev pub turn_stop : Aim → Option ℕ → ℕ → Held → Option Stop
turn_stop a runner logged h = or_else (unit_stop a runner logged h) (break_stop a (first h.kept.state.ready) h)

-- what stops after a turn in which this process ran, before which the log had so many bytes, and these were seen
abbrev pub stop_after : Aim → Option ℕ → ℕ → List Seen → Held → Option Stop
stop_after a runner logged seen h = or_else (first_changed a h seen) (turn_stop a runner logged h)
