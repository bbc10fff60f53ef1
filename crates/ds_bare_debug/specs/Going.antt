-- Where a run goes, forward and back.
use Rattle.std.specs.Prelude.{ℕ, zero, suc, ◌-◌, if◌then◌else◌, Option, Some, None}
use Rattle.ds_packets.specs.declared.packet.Action.{Action}
use Rattle.ds_packets.specs.declared.packet.Action.TheVariants.{Continue, Step, Range}
use Rattle.ds_gdb.specs.declared.stops.Reason.{Reason}
use Rattle.ds_gdb.specs.declared.stops.Reason.TheVariants.{Begin, End, Rest}
use Rattle.ds_bare_debug.specs.Goals.{BareGoal, stop_coming, watch_between}
use Rattle.ds_bare_debug.specs.Positions.{BareRun, Position, onward, position}
use Rattle.ds_bare_debug.specs.declared.back.Place.{Place}

-- a position, and why the run stands there
pub record Came : Type 0 where
  pub position : Position
  pub reason : Reason

-- here, where something stops, and else there
abbrev pub came_or : Option Reason → Position → Came → Came
came_or None here there = there
came_or (Some reason) here there = record { position = here; reason = reason }

-- the first later position that stops, of at most so many; or the last of the run
unfoldable pub next_stop : BareGoal → ℕ → Position → Came
next_stop g zero p = record { position = p; reason = End }
next_stop g (suc n) p = if p.over then record { position = p; reason = End } else came_or (stop_coming g p (onward p)) (onward p) (next_stop g n (onward p))

-- this place, where something stops there, and else that
abbrev pub place_or : Option Reason → ℕ → Place → Place
place_or None k other = other
place_or (Some reason) k other = record { done = k; reason = reason }

-- the last position of so many from the first on that stops; or the first
unfoldable pub last_stop : BareRun → BareGoal → ℕ → Place
last_stop r g zero = record { done = 0; reason = Begin }
last_stop r g (suc k) = place_or (stop_coming g (position r k) (position r (suc k))) (suc k) (last_stop r g k)

-- the last earlier position that stops; a watched byte that changed with the last instruction stops there
abbrev pub stop_before : BareRun → BareGoal → ℕ → Place
stop_before r g zero = record { done = 0; reason = Begin }
stop_before r g (suc k) = place_or (watch_between g (position r k) (position r (suc k))) (suc k) (last_stop r g k)

-- the position before this one
abbrev pub step_before : ℕ → Place
step_before zero = record { done = 0; reason = Begin }
step_before (suc k) = record { done = k; reason = Rest }

-- a step, or to the last stop
abbrev pub place_before : BareRun → BareGoal → Action → ℕ → Place
place_before r g Step k = step_before k
place_before r g Continue k = stop_before r g k
place_before r g (Range from to) k = stop_before r g k
