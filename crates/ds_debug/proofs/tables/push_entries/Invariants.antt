use Rattle.std.proofs.Common.{◌≡◌, ◌++◌, take}
use Rattle.std.specs.Prelude.{flat_map}
use Rattle.ds_debug.specs.Tables.{entry_line}
use Rattle.ds_debug.proofs.tables.push_entries.Given as goal

-- what is written so far
abbrev pub invariant-loop-entry : goal.invariant-loop-entry
invariant-loop-entry l = l.text.items ≡ l.fn.text.items ++ flat_map (entry_line l.process) (take l.entry-index l.entries)
