use Rattle.std.proofs.Common.{◌≡◌, ◌-◌, ◌++◌}
use Rattle.std.specs.String.{string_bytes}
use Rattle.ds_trace.specs.Entries.{tables_from}
use Rattle.ds_trace.proofs.entries.push_tables.Given as goal

-- what is written, and what the processes that are left will add, is what all say
abbrev pub invariant-loop-process : goal.invariant-loop-process
invariant-loop-process g l =
    string_bytes l.line ++ tables_from l.view l.time l.rows l.station.held.kept.grants.table l.process (101 - l.process)
    ≡ string_bytes l.fn.line ++ tables_from l.view l.time l.rows l.station.held.kept.grants.table 1 100
