use Rattle.std.proofs.Common.{◌≡◌, ◌-◌, ◌++◌, drop}
use Rattle.ds_trace.proofs.entries.push_rows.Given as goal

-- what is added, and the entries of the processes that are left, is all entries
abbrev pub invariant-loop-process : goal.invariant-loop-process
invariant-loop-process g l =
    l.rows.items ++ drop (l.process - 1) l.station.held.kept.grants.table ≡ l.fn.rows.items ++ l.station.held.kept.grants.table
