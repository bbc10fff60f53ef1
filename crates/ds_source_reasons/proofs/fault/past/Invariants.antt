use Rattle.std.proofs.Common.{◌≡◌, ◌-◌}
use Rattle.ds_source_reasons.specs.Told.{after_lines, offset_after}
use Rattle.ds_source_reasons.proofs.fault.past.Given as goal

abbrev pub invariant-loop : goal.invariant-loop
invariant-loop l = record {
  place : offset_after (l.count - l.counter) l.place l.rest ≡ offset_after l.count 0 l.text;
  rest : after_lines (l.count - l.counter) l.rest ≡ after_lines l.count l.text;
}
