use Rattle.std.proofs.Common.{List, ℕ, ◌++◌, take}
use Rattle.ds_asm.specs.Assembly.{lines_of}
use Rattle.ds_explain.specs.Moments.{AreTold}
use Rattle.ds_log_reasons.specs.Inner.Sentences.{known_placed}
use Rattle.ds_explain.proofs.moments.told_lines.Given as goal

-- what is told so far, with what will be told of the lines that are left, is told of all
abbrev pub invariant-loop-rest : goal.invariant-loop-rest
invariant-loop-rest g l =
    (more : List ℕ) → AreTold (known_placed l.known) l.n l.station.held (take l.left (lines_of l.rest)) more
    → AreTold (known_placed l.known) l.n l.fn.station.held (take l.most (lines_of l.log)) (l.sheet.items ++ more)

abbrev pub decreases-loop-rest : goal.decreases-loop-rest
decreases-loop-rest g l = l.left
