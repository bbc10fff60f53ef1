use Rattle.std.proofs.Common.{◌≡◌, ◌+◌, ◌≤◌, length}
use Rattle.ds_asm.specs.Assembly.{lines_of}
use Rattle.ds_policy_reasons.specs.Keys.{first_odd}
use Rattle.ds_policy_reasons.proofs.keys.first_odd.Given as goal

abbrev pub invariant-loop-rest : goal.invariant-loop-rest
invariant-loop-rest l = record {
  same : first_odd (l.number + 1) (lines_of l.rest) ≡ first_odd 1 (lines_of l.text);
  within : l.number + length l.rest ≤ length l.text;
}

abbrev pub decreases-loop-rest : goal.decreases-loop-rest
decreases-loop-rest l = length l.rest
