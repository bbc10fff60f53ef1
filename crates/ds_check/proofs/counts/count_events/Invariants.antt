use Rattle.std.proofs.Common.{◌≡◌, ◌+◌, ◌≤◌, length}
use Rattle.ds_check.specs.Limits.{events_in}
use Rattle.ds_check.proofs.counts.count_events.Given as goal

abbrev pub invariant-loop-left : goal.invariant-loop-left
invariant-loop-left l = record {
  same : l.count + events_in l.left ≡ events_in l.input;
  within : l.count + length l.left ≤ length l.input;
}

abbrev pub decreases-loop-left : goal.decreases-loop-left
decreases-loop-left l = length l.left
