-- Calls that are answered at once, and the block of instructions after one.
use Rattle.std.specs.Prelude.{◌≡◌, ℕ, ◌+◌, ◌-◌, ◌<◌, true, false, None}
use Rattle.ds_cp0.specs.System.{is_user}
use Rattle.ds_core.specs.Core.{CoreState}
use Rattle.ds_ahead.specs.Inner.Ahead.{owed_tick}
use Rattle.ds_refinement.specs.Told.{code_in, is_delayed}
use Rattle.ds_refinement.specs.Units.{is_served, has_left_user}
use Rattle.ds_refinement.specs.Inner.Blocks.{MayRunAhead}
use Rattle.ds_monitor.specs.Inner.Room.{HasLogRoom, HasRoom}
use Rattle.ds_kernel.specs.declared.parts.Parts.{Parts}
use Rattle.ds_kernel.specs.Inner.Parts.{held}
use Rattle.ds_kernel.specs.Inner.Good.{IsBusy, IsGood}
use Rattle.ds_kernel.specs.Inner.Going.{GoesOn}

-- a call left the program: it is served, it came from user mode, and Cause has its code
pub record IsCalled (c : CoreState) : Type 0 where
  pub served : is_served c ≡ true
  pub left : has_left_user c ≡ true
  pub code : code_in c.system ≡ 8

-- a call of a process outside the slot of a branch waits, and the boundary after its turn has nothing to do
pub record IsQuietCall {L : Type 0} (process : ℕ) (p : Parts L) : Type 0 where
  pub busy : IsBusy process p
  pub called : IsCalled p.core
  pub outside : is_delayed p.core.system ≡ false
  pub early : p.monitor.time + 1 < p.monitor.quiet_until

-- it is answered, and its turn and the boundary after that are over: the same process is at the beginning of its next unit
pub record IsAnswered {L : Type 0} (old new : Parts L) : Type 0 where
  pub good : IsGood new
  pub goes : (n : ℕ) → old.monitor.time < n → GoesOn n (held old) (held new)
  pub unowed : new.monitor.owed ≡ None
  pub ready : new.monitor.ready ≡ old.monitor.ready
  pub user : is_user new.core.system ≡ true
  pub begins : new.spent ≡ owed_tick new.core.slot
  pub outside : new.core.slot ≡ false
  pub until : new.monitor.quiet_until ≡ old.monitor.quiet_until
  pub log : HasLogRoom 1 old.monitor → HasLogRoom 1 new.monitor

-- a block of some instructions may begin, after which a unit still begins before a time
pub record MayGoOn {L : Type 0} (end : ℕ) (p : Parts L) : Type 0 where
  pub early : p.monitor.time + 1 < end
  pub outside : p.core.slot ≡ false
  pub ahead : MayRunAhead (end - p.monitor.time - 1) (held p)
  pub room : HasRoom 1 p.monitor
