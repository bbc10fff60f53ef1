use Rattle.std.proofs.Common.{◌≡◌, ◌-◌, ◌++◌, length}
use Rattle.ds_station.specs.Reads.{memory_held}
use Rattle.ds_gdb.specs.Each.{each}
use Rattle.ds_debug.specs.Sights.{sight_held}
use Rattle.ds_debug.specs.Tables.{entries_text, table_text}
use Rattle.ds_debug.proofs.tables.push_table.Given as goal

-- what is written, and the processes whose entries are left
abbrev pub invariant-loop-index : goal.invariant-loop-index
invariant-loop-index g l =
    l.text.items ++ each (entries_text (memory_held l.station.held).table) l.index (length l.station.held.kept.state.processes - l.index)
    ≡ l.fn.text.items ++ table_text (sight_held l.station.held)
