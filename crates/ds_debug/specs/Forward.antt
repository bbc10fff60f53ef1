-- How a run goes forward, turn by turn, to where something stops.
use Rattle.std.specs.Prelude.{◌≡◌, ◌<◌, ◌≤◌, ◌⊎◌, ℕ, ◌+◌, true, false, List, [], ◌∷◌, length, Option, Some, None}
use Rattle.ds_pagemap.specs.Machine.{first}
use Rattle.ds_refinement.specs.Held.{Held}
use Rattle.ds_refinement.specs.Real.{RealPath}
use Rattle.ds_refinement.specs.Runs.{RunsTo, held_goes_on}
use Rattle.ds_debug.specs.Exits.{exits_next}
use Rattle.ds_debug.specs.Goals.{Goal, stop_after}
use Rattle.ds_debug.specs.Watches.{all_seen}
use Rattle.ds_debug.specs.declared.goals.Stop.{Stop}

-- a turn of a run for n
pub record IsTurn (n : ℕ) (old new : Held) : Type 0 where
  pub early : old.kept.state.time < n
  pub runs : RunsTo (old.kept.state.time + 1) old new
  pub path : RealPath old new
  pub later : old.kept.state.time < new.kept.state.time

-- what stops after it
abbrev pub stop_between : Goal → Held → Held → Option Stop
stop_between g old new = stop_after g.aim (first old.kept.state.ready) (length old.kept.log) (all_seen old g.watchpoints) new

-- a turn that is not the exit of the last process
pub record IsOnward (n : ℕ) (old new : Held) : Type 0 where
  pub turn : IsTurn n old new
  pub stays : exits_next old ≡ false

-- by these turns, the newest first, after none of which something stops
abbrev pub Passes : Goal → ℕ → Held → List Held → Held → Type 0
Passes g n old [] new = new ≡ old
Passes g n old (last ∷ before) new = IsOnward n last new × (stop_between g last new ≡ None) × Passes g n old before last

-- it came so far without a stop
pub record HasPassed (g : Goal) (n : ℕ) (old new : Held) : Type 0 where
  pub path : List Held
  pub passes : Passes g n old path new

-- it came to the first stop
pub record HasStopped (g : Goal) (n : ℕ) (stop : Stop) (old new : Held) : Type 0 where
  pub last : Held
  pub passed : HasPassed g n old last
  pub turn : IsOnward n last new
  pub stops : stop_between g last new ≡ Some stop

-- or to the end of the run, or before the exit of the last process, with no stop before; no time has passed since the last turn
pub record ReachesEnd (g : Goal) (n : ℕ) (old new : Held) : Type 0 where
  pub last : Held
  pub passed : HasPassed g n old last
  pub still : new.kept.state.time ≤ last.kept.state.time
  pub over : (held_goes_on n new ≡ false) ⊎ (exits_next new ≡ true)

-- one of the two
abbrev pub GoesForward : Goal → ℕ → Option Stop → Held → Held → Type 0
GoesForward g n None = ReachesEnd g n
GoesForward g n (Some stop) = HasStopped g n stop
