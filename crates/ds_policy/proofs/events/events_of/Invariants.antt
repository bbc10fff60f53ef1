use Rattle.std.proofs.Common.{◌≡◌, ◌≤◌, ◌+◌, length}
use Rattle.ds_policy.specs.InputText.{with_lines, lines_of, nothing_said}
use Rattle.ds_policy.proofs.events.events_of.Given as goal

abbrev pub invariant-loop-left : goal.invariant-loop-left
invariant-loop-left l = record {
  same : with_lines l.pages l.reading (l.number + 1) (lines_of l.left) ≡ with_lines l.pages nothing_said 1 (lines_of l.text);
  within : l.number + length l.left ≤ length l.text;
}

abbrev pub decreases-loop-left : goal.decreases-loop-left
decreases-loop-left l = length l.left
