-- What is true of a station's parts at any time, and while a unit goes on.
use Rattle.std.specs.Prelude.{◌≡◌, ◌≢◌, ℕ, ◌+◌, ◌<◌, ◌≤◌, true, false, [], length, Some, None, IsSome}
use Rattle.ds_cp0.specs.System.{is_user}
use Rattle.ds_ahead.specs.Inner.Ahead.{owed_tick}
use Rattle.ds_monitor.specs.Inner.Coming.{next_due}
use Rattle.ds_monitor.specs.Inner.Kept.{kept_of}
use Rattle.ds_pagemap.specs.Machine.{first}
use Rattle.ds_refinement.specs.Held.{Held}
use Rattle.ds_refinement.specs.Inner.Counts.{IsFresh}
use Rattle.ds_refinement.specs.Inner.Stands.{IsSound}
use Rattle.ds_monitor.specs.Inner.Room.{HasBoundaryRoom, HasTurnRoom}
use Rattle.ds_monitor.specs.Inner.Orderly as monitor
use Rattle.ds_kernel.specs.declared.parts.Parts.{Parts}
use Rattle.ds_kernel.specs.Inner.Parts.{held}

-- a clock's rate: 0 where there is none, or from 3 to 15
pub record IsRate (rate : ℕ) : Type 0 where
  pub high : rate ≤ 15
  pub low : 0 < rate → 3 ≤ rate

-- what is true of the station's own marks at any time
pub record IsOrderly (h : Held) : Type 0 where
  -- a unit that has begun owes no boundary, and a failure comes only where none is owed
  pub begun : 0 < h.own.spent → h.kept.state.owed ≡ None
  pub failed : h.own.failed ≡ true → h.kept.state.owed ≡ None
  -- an exception is raised in a unit, and a unit is that of a process that is ready
  pub raised : is_user h.core.system ≡ false → 0 < h.own.spent
  pub running : 0 < h.own.spent → h.kept.state.ready ≢ []
  pub spent : h.own.spent ≤ 64
  -- before the first instruction of a unit, and after its branch alone, nothing else is counted
  pub fresh : h.own.spent ≤ owed_tick h.core.slot → IsFresh h.own
  -- a unit writes a line of the log at most, and so does a command
  pub lines : h.kept.lines + length h.kept.state.commands ≤ h.kept.state.time + 4096
  pub ticked : h.kept.ticked ≤ h.kept.state.time
  pub early : h.kept.state.time ≤ 1000000001
  pub rate : IsRate h.kept.state.rate
  pub kept : monitor.IsOrderly h.kept

-- what is true of a station's parts at any time
pub record IsGood {L : Type 0} (p : Parts L) : Type 0 where
  pub sound : IsSound (held p)
  pub orderly : IsOrderly (held p)
  -- a unit that has begun has room for what it may write, and a boundary for its commands
  pub room : 0 < p.spent → HasTurnRoom p.monitor
  pub owed : IsSome p.monitor.owed → HasBoundaryRoom p.monitor
  -- before this time no boundary has anything to do
  pub next : p.monitor.quiet_until ≡ next_due (kept_of p.monitor)

-- a unit of a process goes on
pub record IsBusy {L : Type 0} (process : ℕ) (p : Parts L) : Type 0 where
  pub good : IsGood p
  pub first : first p.monitor.ready ≡ Some process
  pub begun : 0 < p.spent
  pub working : p.failed ≡ false
  pub early : p.monitor.time < 1000000000
