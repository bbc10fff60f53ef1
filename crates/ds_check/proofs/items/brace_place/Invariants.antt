use Rattle.std.proofs.Common.{◌≡◌, ◌+◌, ◌≤◌, length}
use Rattle.ds_check.specs.Items.{brace_from}
use Rattle.ds_check.proofs.items.brace_place.Given as goal

abbrev pub invariant-loop-left : goal.invariant-loop-left
invariant-loop-left l = record {
  same : brace_from l.line l.place l.more l.left ≡ brace_from l.line (record { line = 1; column = 1 }) l.wanted l.text;
  line : l.place.line + length l.left ≤ 1 + length l.text;
  column : l.place.column + length l.left ≤ 1 + length l.text;
}

abbrev pub decreases-loop-left : goal.decreases-loop-left
decreases-loop-left l = length l.left
