use Rattle.std.proofs.Common.{◌≡◌, drop}
use Rattle.ds_asm.specs.Assembly.{lines_of}
use Rattle.ds_explain.proofs.chosen.after_lines.Given as goal

-- those that are still to be passed over come before the same lines
abbrev pub invariant-loop-left : goal.invariant-loop-left
invariant-loop-left l = drop l.left (lines_of l.rest) ≡ drop l.count (lines_of l.text)

abbrev pub decreases-loop-left : goal.decreases-loop-left
decreases-loop-left l = l.left
