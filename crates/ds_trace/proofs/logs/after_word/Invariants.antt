use Rattle.std.proofs.Common.{◌≡◌, length}
use Rattle.ds_trace.specs.Logs.{after_word}
use Rattle.ds_trace.proofs.logs.after_word.Given as goal

-- after the first word of what is left comes what comes after that of the line
abbrev pub invariant-loop-left : goal.invariant-loop-left
invariant-loop-left l = after_word l.left ≡ after_word l.line

abbrev pub decreases-loop-left : goal.decreases-loop-left
decreases-loop-left l = length l.left
