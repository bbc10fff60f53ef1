-- The end of a unit in a service, and what a step of a station does.
use Rattle.std.specs.Prelude.{◌≡◌, ℕ, ◌+◌, ◌≤◌}
use Rattle.ds_pagemap.specs.Machine.{State}
use Rattle.ds_refinement.specs.declared.step.Step.{Step}
use Rattle.ds_refinement.specs.Held.{Held}
use Rattle.ds_refinement.specs.Pairs.{HasNoNewPairs}
use Rattle.ds_refinement.specs.Inner.Services.{EndsUnitBy, with_none_spent}
use Rattle.ds_refinement.specs.Steps.{Follows, Moves}
use Rattle.ds_refinement.specs.Real.{IsReal}
use Rattle.ds_monitor.specs.Inner.Coming.{next_due}
use Rattle.ds_monitor.specs.Inner.Kept.{kept_of}
use Rattle.ds_monitor.specs.Inner.Orderly as monitor
use Rattle.ds_monitor.specs.Inner.Room.{HasLogRoom}
use Rattle.ds_kernel.specs.declared.parts.Parts.{Parts}
use Rattle.ds_kernel.specs.Inner.Parts.{held}

-- a unit ended with what f does, and the station's own marks are those of a new one
pub record HasEnded {L : Type 0} (f : State → State) (old new : Parts L) : Type 0 where
  pub ends : EndsUnitBy f (held old) (held new)
  pub own : (held new).own ≡ with_none_spent (held old).own
  pub random : new.core.random ≡ old.core.random
  pub pairs : HasNoNewPairs old.core.entries new.core.entries
  pub lines : new.monitor.lines ≤ old.monitor.lines + 1
  pub ticked : new.monitor.ticked ≡ old.monitor.ticked
  pub rate : new.monitor.rate ≡ old.monitor.rate
  pub until : new.monitor.quiet_until ≡ old.monitor.quiet_until
  pub next : next_due (kept_of new.monitor) ≡ next_due (kept_of old.monitor)
  pub kept : monitor.IsOrderly (kept_of new.monitor)
  pub due : new.monitor.due ≡ old.monitor.due
  pub room : (n : ℕ) → HasLogRoom (n + 1) old.monitor → HasLogRoom n new.monitor

-- it is followed by the machine with its counts, and it is real
pub record DoesStep (step : Step) (old new : Held) : Type 0 where
  pub follows : Follows step old new
  pub moves : Moves step old new
  pub real : IsReal old new
