use Rattle.std.proofs.Common.{◌≡◌, ◌++◌, replicate}
use Rattle.ds_asm.proofs.second_pass.add_zeros.Given as goal

abbrev pub invariant-loop : goal.invariant-loop
invariant-loop l = l.bytes.items ≡ l.fn.bytes.items ++ replicate l.counter 0
