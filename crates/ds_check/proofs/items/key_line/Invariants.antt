use Rattle.std.proofs.Common.{◌≡◌, ◌+◌, ◌≤◌, length}
use Rattle.ds_asm.specs.Assembly.{lines_of}
use Rattle.ds_check.specs.Items.{key_from}
use Rattle.ds_check.proofs.items.key_line.Given as goal

abbrev pub invariant-loop-left : goal.invariant-loop-left
invariant-loop-left l = record {
  same : key_from l.key l.number (lines_of l.left) ≡ key_from l.key l.first (lines_of l.text);
  within : l.number + length l.left ≤ l.first + length l.text;
}

abbrev pub decreases-loop-left : goal.decreases-loop-left
decreases-loop-left l = length l.left
