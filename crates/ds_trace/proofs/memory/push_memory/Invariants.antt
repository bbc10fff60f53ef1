use Rattle.std.proofs.Common.{◌≡◌, ◌++◌, ◌-◌}
use Rattle.std.specs.String.{string_bytes}
use Rattle.ds_station.specs.Reads.{memory_held}
use Rattle.ds_trace.specs.Memory.{memory_text, pieces_text}
use Rattle.ds_trace.proofs.memory.push_memory.Given as goal

-- what is written, and what the words that are left will add, is what all say
abbrev pub invariant-loop-index : goal.invariant-loop-index
invariant-loop-index g l =
    string_bytes l.text ++ pieces_text (memory_held l.station.held) l.process l.address l.count l.index (l.count - l.index)
    ≡ string_bytes l.fn.text ++ memory_text (memory_held l.station.held) l.process l.address l.count
