use Rattle.std.proofs.Common.{◌≡◌, ◌+◌, ◌≤◌, length, []}
use Rattle.ds_asm.specs.Assembly.{bytes_from, lines_of}
use Rattle.ds_asm.specs.Inner.Assembling.{held_address}
use Rattle.ds_asm.proofs.second_pass.bytes_of.Given as goal

abbrev pub invariant-loop-rest : goal.invariant-loop-rest
invariant-loop-rest l = record {
  same : bytes_from (l.number + 1) (held_address l.labels) l.bytes.items (lines_of l.rest) ≡ bytes_from 1 (held_address l.labels) [] (lines_of l.text);
  within : l.number + length l.rest ≤ length l.text;
}

abbrev pub decreases-loop-rest : goal.decreases-loop-rest
decreases-loop-rest l = length l.rest
