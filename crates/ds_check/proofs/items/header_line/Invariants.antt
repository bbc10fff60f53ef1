use Rattle.std.proofs.Common.{◌≡◌, ◌+◌, ◌≤◌, length}
use Rattle.ds_asm.specs.Assembly.{lines_of}
use Rattle.ds_check.specs.Items.{header_from}
use Rattle.ds_check.proofs.items.header_line.Given as goal

abbrev pub invariant-loop-left : goal.invariant-loop-left
invariant-loop-left l = record {
  same : header_from l.header l.number l.more (lines_of l.left) ≡ header_from l.header 1 l.wanted (lines_of l.text);
  within : l.number + length l.left ≤ 1 + length l.text;
}

abbrev pub decreases-loop-left : goal.decreases-loop-left
decreases-loop-left l = length l.left
