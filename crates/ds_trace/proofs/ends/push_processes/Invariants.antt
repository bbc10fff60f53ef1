use Rattle.std.proofs.Common.{◌≡◌, ◌+◌, ◌-◌, ◌++◌, length}
use Rattle.ds_trace.specs.Inner.Shows.{processes_held}
use Rattle.ds_trace.proofs.Scanning.{seen}
use Rattle.ds_trace.proofs.ends.push_processes.Given as goal

-- what is written, and what the processes that are left will add, is what all say
abbrev pub invariant-loop-process : goal.invariant-loop-process
invariant-loop-process g l =
    l.text.items ++ processes_held l.names (seen l.lines) l.station.held l.process (length l.station.held.kept.state.processes + 1 - l.process)
    ≡ l.fn.text.items ++ processes_held l.names (seen l.lines) l.station.held 1 (length l.station.held.kept.state.processes)
