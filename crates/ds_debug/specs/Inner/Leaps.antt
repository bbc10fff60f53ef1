-- A run that goes forward by blocks, where nothing but a denial and breakpoints can stop it.
use Rattle.std.specs.Prelude.{◌≡◌, ◌⊎◌, ◌<◌, ◌≤◌, ℕ, Bool, true, false, List, [], ◌∷◌, length, slice_index_or, Option, Some, None}
use Rattle.ds_packets.specs.declared.packet.Action.{Action}
use Rattle.ds_packets.specs.declared.packet.Action.TheVariants.{Continue, Step, Range}
use Rattle.ds_pagemap.specs.Machine.{first}
use Rattle.ds_pagemap.specs.Run.{is_over}
use Rattle.ds_refinement.specs.Held.{Held}
use Rattle.ds_refinement.specs.Real.{RealPath}
use Rattle.ds_refinement.specs.Inner.Runs.{RunsWithin}
use Rattle.ds_refinement.specs.Inner.Stands.{IsSound}
use Rattle.ds_debug.specs.Goals.{Aim, Goal, break_stop}

-- a process goes on up to a stop, or stays as it is
abbrev pub is_calm : Option Action → Bool
is_calm None = true
is_calm (Some Continue) = true
is_calm (Some Step) = false
is_calm (Some (Range from to)) = false

-- no process takes steps, and there is no watch
pub record IsFree (g : Goal) : Type 0 where
  pub calm : (p : ℕ) → is_calm (slice_index_or g.aim.actions p None) ≡ true
  pub watchpoints : g.watchpoints ≡ []

-- up to a time it came further, with nothing new in the log, and somebody has not ended
pub record IsFurther (n : ℕ) (old new : Held) : Type 0 where
  pub later : old.kept.state.time < new.kept.state.time
  pub early : new.kept.state.time ≤ n
  pub quiet : length new.kept.log ≤ length old.kept.log
  pub lives : is_over new.kept.state ≡ false

-- each of these states has it
abbrev pub Each : (Held → Type 0) → List Held → Type 0
Each R [] = Unit {0}
Each R (h ∷ rest) = R h × Each R rest

-- it has it where it stands for some state, and between two turns
abbrev pub AtRest : (Held → Type 0) → Held → Type 0
AtRest R h = IsSound h → h.kept.state.owed ≡ None → h.own.spent ≡ 0 → R h

-- whoever runs next is at no breakpoint
abbrev pub IsUnbroken : Aim → Held → Type 0
IsUnbroken a h = break_stop a (first h.kept.state.ready) h ≡ None

-- so it is, or it is where the run began
abbrev pub IsPassed : Aim → Held → Held → Type 0
IsPassed a old h = (h ≡ old) ⊎ IsUnbroken a h

-- up to a time it came by real steps, and passed no breakpoint between two turns; there it stands
pub record HasLeapt (a : Aim) (n : ℕ) (old new : Held) : Type 0 where
  pub within : RunsWithin n old new
  pub path : RealPath old new
  pub passed : Each (AtRest (IsPassed a old)) path.path
  pub whole : new.kept.state.owed ≡ None
  pub spent : new.own.spent ≡ 0
  pub working : new.own.failed ≡ false

-- so it came further, and is at no breakpoint
pub record Leaps (a : Aim) (n : ℕ) (old new : Held) : Type 0 where
  pub further : IsFurther n old new
  pub leapt : HasLeapt a n old new
  pub unbroken : IsUnbroken a new
