use Rattle.std.proofs.Common.{◌≡◌, ◌+◌, ◌++◌, drop}
use Rattle.ds_check.specs.Starts.{start_texts}
use Rattle.ds_check.specs.Inner.Starts.{assembled}
use Rattle.ds_check.proofs.starts.push_starts.Given as goal

-- what is told, and what is told of the processes that are left, is all
abbrev pub invariant-loop-index : goal.invariant-loop-index
invariant-loop-index l = l.sheet.items ++ start_texts (assembled l.sources) l.pages l.table (l.index + 1) (drop l.index l.processes) ≡ l.fn.sheet.items ++ start_texts (assembled l.sources) l.pages l.table 1 l.processes
