use Rattle.std.proofs.Common.{◌≡◌, ◌≤◌, drop, length}
use Rattle.ds_asm.specs.Assembly.{lines_of}
use Rattle.ds_check.proofs.lines.after_lines.Given as goal

abbrev pub invariant-loop-left : goal.invariant-loop-left
invariant-loop-left l = record {
  lines : drop l.left (lines_of l.rest) ≡ drop l.count (lines_of l.text);
  within : length l.rest ≤ length l.text;
}

abbrev pub decreases-loop-left : goal.decreases-loop-left
decreases-loop-left l = l.left
