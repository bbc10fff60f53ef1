-- A time at which a run is to stop once.
use Rattle.std.specs.Prelude.{ℕ, ◌&&◌, ◌||◌, Bool, true, nat_le, nat_lt, if◌then◌else◌, Option, Some, None}
use Rattle.ds_debug.specs.declared.places.Place.{Place}
use Rattle.ds_debug.specs.declared.places.Sought.{Sought}
use Rattle.ds_debug.specs.declared.places.Sought.TheVariants.{LastTurn, LastStop}
use Rattle.ds_gdb.specs.declared.stops.Reason.TheVariants.{Rest}

-- up to when a run goes on: to the time that is asked for, where it lies ahead and before the end
abbrev pub bound_by : Option ℕ → ℕ → ℕ → ℕ
bound_by None time limit = limit
bound_by (Some t) time limit = if nat_lt time t && nat_lt t limit then t else limit

-- a time lies on the way from one time to another, forward or back
abbrev pub is_passed : ℕ → ℕ → ℕ → Bool
is_passed t old new = (nat_lt old t && nat_le t new) || (nat_le new t && nat_lt t old)

-- what is still asked for after it
abbrev pub still_asked : Option ℕ → ℕ → ℕ → Option ℕ
still_asked None old new = None
still_asked (Some t) old new = if is_passed t old new then None else Some t

-- a place lies before a time
abbrev pub is_before : Option Place → ℕ → Bool
is_before None t = true
is_before (Some place) t = nat_lt place.time t

-- where the last stop is sought, the time that is asked for is one too, at which this process stands
abbrev pub asked_place : Sought → Option ℕ → ℕ → ℕ → Option Place → Option Place
asked_place LastStop (Some t) until p place = if nat_lt t until && is_before place t then Some (record { time = t; stop = record { process = p; reason = Rest } }) else place
asked_place LastStop None until p place = place
asked_place (LastTurn q) asked until p place = place
