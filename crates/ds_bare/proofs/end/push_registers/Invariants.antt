use Rattle.std.proofs.Common.{◌≡◌, ◌+◌, ◌≤◌, ◌++◌, length}
use Rattle.std.specs.String.{string_bytes}
use Rattle.ds_bare.specs.Ends.{registers_text}
use Rattle.ds_bare.proofs.end.push_registers.Given as goal

-- what is written, and what the registers that are left will add, is what all say
abbrev pub invariant-loop-left : goal.invariant-loop-left
invariant-loop-left l = record {
  text : string_bytes l.text ++ registers_text l.names l.number l.left ≡ string_bytes l.fn.text ++ registers_text l.names l.first l.values;
  few : l.number + length l.left ≤ 64;
}

abbrev pub decreases-loop-left : goal.decreases-loop-left
decreases-loop-left l = length l.left
