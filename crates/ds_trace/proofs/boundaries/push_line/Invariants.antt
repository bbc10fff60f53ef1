use Rattle.std.proofs.Common.{◌≡◌, ◌++◌, drop}
use Rattle.std.specs.String.{string_bytes}
use Rattle.ds_trace.specs.Boundaries.{characters_line_text}
use Rattle.ds_trace.proofs.boundaries.push_line.Given as goal

-- what is written, and what the characters that are left will add, is what all say
abbrev pub invariant-loop-byte : goal.invariant-loop-byte
invariant-loop-byte l = string_bytes l.line ++ characters_line_text l.time l.console (drop l.byte-index l.bytes) ≡ string_bytes l.fn.line ++ characters_line_text l.time l.console l.bytes
