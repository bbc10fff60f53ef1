use Rattle.std.proofs.Common.{◌≡◌, ◌+◌, ◌++◌, drop}
use Rattle.ds_check.specs.PolicyNotes.{processes_notes}
use Rattle.ds_check.proofs.notes.policy.push_processes.Given as goal

-- what was noted, and the notes on the processes that are left, are the notes on all
abbrev pub invariant-loop-index : goal.invariant-loop-index
invariant-loop-index l = l.notes.items ++ processes_notes l.table (l.index + 1) (drop l.index l.processes) ≡ l.fn.notes.items ++ processes_notes l.table 1 l.processes
