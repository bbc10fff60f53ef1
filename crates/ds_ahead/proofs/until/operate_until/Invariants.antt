use Rattle.std.proofs.Common.{ℕ, ◌<◌, ◌≤◌, ◌-◌}
use Rattle.ds_ahead.specs.Inner.Ahead.{after_steps, hardware_of}
use Rattle.ds_ahead.specs.Inner.Operations.{LeadsOn}
use Rattle.ds_ahead.specs.Inner.Placed.{placed}
use Rattle.ds_ahead.specs.Inner.Stops.{IsClear}
use Rattle.ds_ahead.proofs.until.operate_until.Given as goal

abbrev pub invariant-loop-left : goal.invariant-loop-left
invariant-loop-left g l = record {
  within : l.left ≤ l.fn.left;
  leads : LeadsOn (l.fn.left - l.left) l.fn.core l.fn.at l.fn.bus l.core l.at l.bus;
  clear : (n k : ℕ) → k < l.fn.left - l.left → IsClear l.stops (after_steps k (hardware_of (placed n l.fn.core l.fn.at) l.fn.bus)).core;
}

abbrev pub decreases-loop-left : goal.decreases-loop-left
decreases-loop-left g l = l.left
