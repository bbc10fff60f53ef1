use Rattle.std.proofs.Common.{◌≡◌, ◌+◌, ◌*◌, length}
use Rattle.ds_policy.specs.InputNumbers.{pairs_of}
use Rattle.ds_policy.proofs.InputSteps.{afterwards}
use Rattle.ds_policy.proofs.events.digits.pairs_of.Given as goal

abbrev pub invariant-loop-left : goal.invariant-loop-left
invariant-loop-left l = record {
  same : afterwards l.keys (pairs_of l.left) ≡ pairs_of l.word;
  room : 2 * length l.keys + length l.left ≡ length l.word;
}

abbrev pub decreases-loop-left : goal.decreases-loop-left
decreases-loop-left l = length l.left
