use Rattle.std.proofs.Common.{◌≡◌, false, ◌+◌, ◌≤◌}
use Rattle.ds_ahead.specs.Inner.Ahead.{owed_tick}
use Rattle.ds_refinement.specs.Inner.Blocks.{MayRunAhead}
use Rattle.ds_refinement.specs.Held.{Held}
use Rattle.ds_monitor.specs.Inner.Room.{HasRoom}
use Rattle.ds_kernel.specs.Inner.Parts.{held}
use Rattle.ds_kernel.specs.Inner.Good.{IsGood}
use Rattle.ds_kernel.specs.Inner.Going.{rank, GoesOn}
use Rattle.ds_kernel.proofs.parts.Parts.run_blocks.Given as goal

abbrev pub invariant-loop-ahead : goal.invariant-loop-ahead
invariant-loop-ahead g l = record {
  good : IsGood l.self;
  working : l.self.failed ≡ false;
  goes : (h : Held) → GoesOn l.n (held l.self) h → GoesOn l.n (held l.fn.self) h;
  ahead : MayRunAhead l.ahead (held l.self);
  some : 1 ≤ l.ahead;
  end : l.self.monitor.time + l.ahead + 1 ≡ l.end;
  quiet : l.end ≤ l.self.monitor.quiet_until;
  before : l.self.monitor.time + l.ahead + 1 + owed_tick l.self.core.slot ≤ l.self.monitor.quiet_until;
  room : HasRoom 1 l.self.monitor;
}

abbrev pub decreases-loop-ahead : goal.decreases-loop-ahead
decreases-loop-ahead g l = rank l.n (held l.self)
