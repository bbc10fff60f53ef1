use Rattle.std.proofs.Common.{◌≡◌, ◌+◌, ◌++◌, drop, if◌then◌else◌}
use Rattle.ds_trace.specs.Boundaries.{due_by}
use Rattle.ds_trace.proofs.before.push_due.Given as goal

-- what is added, and what of the commands that are left is due, is what of all is due
abbrev pub invariant-loop-command : goal.invariant-loop-command
invariant-loop-command l = l.due.items ++ due_by (if l.owed then l.time else l.time + 1) (drop l.command-index l.commands) ≡ l.fn.due.items ++ due_by (if l.owed then l.time else l.time + 1) l.commands
