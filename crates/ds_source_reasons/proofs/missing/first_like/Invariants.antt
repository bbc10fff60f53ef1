use Rattle.std.proofs.Common.{◌≡◌, ◌+◌, ◌≤◌, length}
use Rattle.ds_asm.specs.Assembly.{lines_of}
use Rattle.ds_source_reasons.specs.Missing.{first_like}
use Rattle.ds_source_reasons.proofs.missing.first_like.Given as goal

abbrev pub invariant-loop-rest : goal.invariant-loop-rest
invariant-loop-rest l = record {
  same : first_like l.name (l.number + 1) (lines_of l.rest) ≡ first_like l.name 1 (lines_of l.text);
  within : l.number + length l.rest ≤ length l.text;
}

abbrev pub decreases-loop-rest : goal.decreases-loop-rest
decreases-loop-rest l = length l.rest
