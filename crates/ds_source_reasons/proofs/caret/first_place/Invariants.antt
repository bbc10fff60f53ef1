use Rattle.std.proofs.Common.{◌≡◌, ◌+◌, ◌≤◌, length}
use Rattle.std.specs.Prelude.{option_map}
use Rattle.ds_source_reasons.specs.Carets.{first_place}
use Rattle.ds_source_reasons.proofs.caret.first_place.Given as goal

abbrev pub invariant-loop-rest : goal.invariant-loop-rest
invariant-loop-rest l = record {
  same : option_map (λ n. l.place + n) (first_place l.text l.rest) ≡ first_place l.text l.line;
  within : l.place + length l.rest ≤ length l.line;
}

abbrev pub decreases-loop-rest : goal.decreases-loop-rest
decreases-loop-rest l = length l.rest
