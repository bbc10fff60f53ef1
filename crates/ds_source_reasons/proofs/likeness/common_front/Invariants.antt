use Rattle.std.proofs.Common.{◌≡◌, ◌+◌, ◌-◌, ◌≤◌, length, drop}
use Rattle.ds_source_reasons.specs.Likeness.{common_front}
use Rattle.ds_source_reasons.proofs.likeness.common_front.Given as goal

abbrev pub invariant-loop-count : goal.invariant-loop-count
invariant-loop-count l = record {
  same : l.count + common_front (drop l.count l.a) (drop l.count l.b) ≡ common_front l.a l.b;
  within : l.count ≤ length l.a;
  within_b : l.count ≤ length l.b;
}

abbrev pub decreases-loop-count : goal.decreases-loop-count
decreases-loop-count l = length l.a - l.count
