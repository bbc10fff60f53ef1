use Rattle.std.proofs.Common.{◌≡◌, ◌+◌, ◌++◌, drop}
use Rattle.ds_ties.specs.Texts.{process_texts}
use Rattle.ds_ties.proofs.texts.push_processes.Given as goal

-- what is written, and what the processes that are left will add, is what all say
abbrev pub invariant-loop-index : goal.invariant-loop-index
invariant-loop-index l = l.sheet.items ++ process_texts l.table l.events (l.index + 1) (drop l.index l.processes) ≡ l.fn.sheet.items ++ process_texts l.table l.events 1 l.processes
