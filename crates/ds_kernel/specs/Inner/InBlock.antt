-- A block of instructions in which calls are answered where they stand.
use Rattle.std.specs.Prelude.{◌≡◌, ◌≢◌, ◌⊎◌, ℕ, ◌+◌, ◌-◌, ◌<◌, ◌≤◌, ◌^◌, true, false, [], length, None}
use Rattle.ds_cp0.specs.declared.exception.ExceptionCode.TheVariants.{SystemCall}
use Rattle.ds_cp0.specs.System.{is_user}
use Rattle.ds_core.specs.Core.{CoreState, trapped, with_tick}
use Rattle.ds_ahead.specs.declared.ride.Ride.{Ride}
use Rattle.ds_ahead.specs.Inner.Ahead.{hardware_of, after_steps, Advances, owed_tick}
use Rattle.ds_ahead.specs.Inner.Ride.{ridden}
use Rattle.ds_refinement.specs.Held.{Held}
use Rattle.ds_refinement.specs.Counts.{Counts, one_more}
use Rattle.ds_refinement.specs.Inner.Blocks.{MayRunAhead, counts_beyond}
use Rattle.ds_monitor.specs.Inner.Room.{HasLogRoom, HasRoom}
use Rattle.ds_kernel.specs.declared.parts.Parts.{Parts}
use Rattle.ds_kernel.specs.Inner.Parts.{held, own_of}
use Rattle.ds_kernel.specs.Inner.Good.{IsGood}
use Rattle.ds_kernel.specs.Inner.Going.{GoesOn}

-- So many steps are left of a block whose last boundary comes a tick before this end. The others were taken since it began, or since the last call in it was answered: then
-- so many were left, with the tick that was left to a slot. All but the processor and its bus is as it was then.
pub record InBlock {L : Type 0} (first : Held) (n end mark left before : ℕ) (c : CoreState) (p : Parts L) : Type 0 where
  pub start : Parts L
  pub limit : ℕ
  pub goes : (held start ≡ first) ⊎ GoesOn n first (held start)
  pub good : IsGood start
  pub working : start.failed ≡ false
  pub ahead : MayRunAhead limit (held start)
  pub room : HasRoom 1 start.monitor
  pub some : 1 ≤ limit
  pub time : start.monitor.time + limit + before + 1 ≡ end
  pub within : end ≤ n + 1
  pub early : n ≤ 1000000000
  pub slot_tick : before ≡ owed_tick start.core.slot
  pub marked : mark ≡ limit + before
  pub quiet : end ≤ start.monitor.quiet_until
  pub still : p ≡ record start { core = p.core; bus = p.bus }
  pub most : left ≤ limit
  pub steps : Advances (limit - left) (hardware_of start.core start.bus) (hardware_of c p.bus)
  pub words : (k : ℕ) → k < limit - left → (after_steps k (hardware_of start.core start.bus)).core.pc < 2 ^ 32

-- A call in it was answered, and as many steps are left of it: the process is at the beginning of its next unit.
pub record IsBehindCall {L : Type 0} (first : Held) (n end left : ℕ) (p : Parts L) : Type 0 where
  pub good : IsGood p
  pub goes : GoesOn n first (held p)
  pub working : p.failed ≡ false
  pub time : p.monitor.time + left + 1 ≡ end
  pub within : end ≤ n + 1
  pub early : n ≤ 1000000000
  pub unowed : p.monitor.owed ≡ None
  pub ready : p.monitor.ready ≢ []
  pub user : is_user p.core.system ≡ true
  pub outside : p.core.slot ≡ false
  pub quiet : end ≤ p.monitor.quiet_until
  pub log : HasLogRoom 1 p.monitor

-- the parts with the processor as it stands where a ride came to
abbrev pub riding : {L : Type 0} → Ride → Parts L → Parts L
riding r p = record p { core = ridden r p.core }

-- what is counted where a call is entered outside of slots, so many steps before the end of a block
abbrev pub called_counts : {L : Type 0} → ℕ → ℕ → ℕ → Parts L → Counts
called_counts mark left before p = one_more (counts_beyond (mark - before - left) (mark - left) false (own_of p))

-- the parts where the call that comes next is entered
abbrev pub at_call : {L : Type 0} → ℕ → ℕ → ℕ → CoreState → Parts L → Parts L
at_call mark left before c p =
    let counts : Counts = called_counts mark left before p in
    record p {
      core = (with_tick (trapped c p.bus SystemCall)).core;
      monitor = record p.monitor { time = p.monitor.time + (mark - left) };
      spent = counts.spent;
      wired = counts.wired;
      written = counts.written;
      refills = length counts.written;
      since = counts.since;
      tables = counts.tables;
      services = counts.services;
    }
