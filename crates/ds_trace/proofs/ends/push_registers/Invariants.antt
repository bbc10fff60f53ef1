use Rattle.std.proofs.Common.{◌≡◌, ◌++◌, drop}
use Rattle.std.specs.String.{string_bytes}
use Rattle.ds_trace.specs.Ends.{registers_text}
use Rattle.ds_trace.proofs.ends.push_registers.Given as goal

-- what is written, and what the registers that are left will add, is what all say
abbrev pub invariant-loop-register : goal.invariant-loop-register
invariant-loop-register l = string_bytes l.line ++ registers_text l.names l.register (drop l.register l.general) ≡ string_bytes l.fn.line ++ registers_text l.names 0 l.general
