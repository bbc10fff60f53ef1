use Rattle.std.proofs.Common.{◌≡◌, ◌+◌, ◌≤◌, ◌++◌, length, Ok}
use Rattle.ds_asm.specs.Assembly.{Layout, laid_lines, lines_of}
use Rattle.ds_asm.specs.Inner.Assembling.{held_address}
use Rattle.ds_asm.specs.Faults.{second_faults}
use Rattle.ds_asm.proofs.faults.second_faults.Given as goal

abbrev pub invariant-loop-rest : goal.invariant-loop-rest
invariant-loop-rest l = record {
  same : l.faults.items ++ second_faults (l.number + 1) (held_address l.labels) l.place (lines_of l.rest) ≡ second_faults 1 (held_address l.labels) 0 (lines_of l.text);
  laid : (m : Layout) × (last : Layout) × (m.size ≡ l.place) × (laid_lines (l.number + 1) m (lines_of l.rest) ≡ Ok last);
  fits : l.place ≤ 65536;
  within : l.number + length l.rest ≤ length l.text;
}

abbrev pub decreases-loop-rest : goal.decreases-loop-rest
decreases-loop-rest l = length l.rest
