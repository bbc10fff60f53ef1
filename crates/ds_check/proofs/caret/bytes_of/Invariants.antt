use Rattle.std.proofs.Common.{◌≡◌, ◌+◌, ◌≤◌, length}
use Rattle.ds_check.specs.Carets.{characters_end}
use Rattle.ds_check.proofs.caret.bytes_of.Given as goal

abbrev pub invariant-loop-left : goal.invariant-loop-left
invariant-loop-left l = record {
  same : characters_end l.place l.more l.left ≡ characters_end 0 l.count l.line;
  within : l.place + length l.left ≤ length l.line;
}

abbrev pub decreases-loop-left : goal.decreases-loop-left
decreases-loop-left l = length l.left
