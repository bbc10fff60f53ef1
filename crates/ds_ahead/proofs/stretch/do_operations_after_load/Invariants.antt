use Rattle.std.proofs.Common.{◌≤◌, ◌-◌}
use Rattle.ds_ahead.specs.Inner.Operations.{LeadsOn}
use Rattle.ds_ahead.proofs.stretch.do_operations_after_load.Given as goal

abbrev pub invariant-loop-left : goal.invariant-loop-left
invariant-loop-left g l = record {
  within : l.left ≤ l.fn.left;
  leads : LeadsOn (l.fn.left - l.left) l.fn.core l.fn.at l.fn.bus l.core l.at l.bus;
}

abbrev pub decreases-loop-left : goal.decreases-loop-left
decreases-loop-left g l = l.left
