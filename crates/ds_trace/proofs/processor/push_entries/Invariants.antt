use Rattle.std.proofs.Common.{◌≡◌, ◌++◌, drop}
use Rattle.std.specs.String.{string_bytes}
use Rattle.ds_trace.specs.Processors.{buffer_lines_text}
use Rattle.ds_trace.proofs.processor.push_entries.Given as goal

-- what is written, and what the entries that are left will add, is what all say
abbrev pub invariant-loop-slot : goal.invariant-loop-slot
invariant-loop-slot g l =
    string_bytes l.line ++ buffer_lines_text l.slot (drop l.slot l.station.held.core.entries) ≡ string_bytes l.fn.line ++ buffer_lines_text 0 l.station.held.core.entries
