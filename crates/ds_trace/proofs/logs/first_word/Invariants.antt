use Rattle.std.proofs.Common.{◌≡◌, ◌++◌, drop, take}
use Rattle.ds_trace.specs.Logs.{first_word}
use Rattle.ds_trace.proofs.logs.first_word.Given as goal

-- no blank has come so far
abbrev pub invariant-loop-index : goal.invariant-loop-index
invariant-loop-index l = take l.index l.line ++ first_word (drop l.index l.line) ≡ first_word l.line
