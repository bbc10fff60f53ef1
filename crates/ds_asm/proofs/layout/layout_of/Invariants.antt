use Rattle.std.proofs.Common.{◌≡◌, ◌+◌, ◌≤◌, length}
use Rattle.ds_asm.specs.Assembly.{Layout, empty_layout, laid_lines, lines_of}
use Rattle.ds_asm.specs.Inner.Assembling.{IsLaid}
use Rattle.ds_asm.proofs.layout.layout_of.Given as goal

abbrev pub invariant-loop-rest : goal.invariant-loop-rest
invariant-loop-rest l = record {
  same : (m : Layout) × IsLaid l.layout m × (laid_lines (l.number + 1) m (lines_of l.rest) ≡ laid_lines 1 empty_layout (lines_of l.text));
  fits : l.layout.size ≤ 65536;
  within : l.number + length l.rest ≤ length l.text;
}

abbrev pub decreases-loop-rest : goal.decreases-loop-rest
decreases-loop-rest l = length l.rest
