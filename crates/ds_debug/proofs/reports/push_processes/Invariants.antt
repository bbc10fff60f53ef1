use Rattle.std.proofs.Common.{◌≡◌, ◌-◌, ◌++◌, length}
use Rattle.ds_gdb.specs.Each.{each}
use Rattle.ds_debug.specs.Sights.{sight_held}
use Rattle.ds_debug.specs.Reports.{listed_process, processes_text}
use Rattle.ds_debug.proofs.reports.push_processes.Given as goal

-- what is written, and the processes that are left
abbrev pub invariant-loop-index : goal.invariant-loop-index
invariant-loop-index g l =
    l.text.items ++ each (listed_process (sight_held l.station.held)) l.index (length l.station.held.kept.state.processes - l.index)
    ≡ l.fn.text.items ++ processes_text (sight_held l.station.held)
