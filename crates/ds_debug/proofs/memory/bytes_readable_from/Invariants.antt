use Rattle.std.proofs.Common.{◌≡◌, ◌+◌, ◌-◌, ◌++◌}
use Rattle.ds_station.specs.Reads.{memory_held}
use Rattle.ds_debug.specs.Memory.{bytes_readable_from}
use Rattle.ds_debug.proofs.memory.bytes_readable_from.Given as goal

-- the bytes so far, and those that are left
abbrev pub invariant-loop-index : goal.invariant-loop-index
invariant-loop-index g l =
    l.bytes.items ++ bytes_readable_from (memory_held l.station.held) l.process (l.address + l.index) (l.count - l.index)
    ≡ bytes_readable_from (memory_held l.station.held) l.process l.address l.count
