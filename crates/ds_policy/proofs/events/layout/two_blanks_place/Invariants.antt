use Rattle.std.proofs.Common.{◌≡◌, ◌+◌, ◌≤◌, length}
use Rattle.ds_policy.specs.InputLayout.{two_blanks_from}
use Rattle.ds_policy.proofs.events.layout.two_blanks_place.Given as goal

abbrev pub invariant-loop-left : goal.invariant-loop-left
invariant-loop-left l = record {
  same : two_blanks_from l.place l.left ≡ two_blanks_from 0 l.line;
  within : l.place + length l.left ≤ length l.line;
}

abbrev pub decreases-loop-left : goal.decreases-loop-left
decreases-loop-left l = length l.left
