use Rattle.std.proofs.Common.{◌≡◌, ◌≤◌, map, take}
use Rattle.std.specs.List.{AllZip}
use Rattle.ds_words.specs.Spans.{spans_in, WritesSpan}
use Rattle.ds_words.proofs.spans.spans_of.Given as goal

abbrev pub invariant-loop-text : goal.invariant-loop-text
invariant-loop-text l = record {
  each : AllZip WritesSpan (map (λ t. t.now) (take l.text-index l.texts)) (spans_in l.spans);
  counted : l.spans.count ≡ l.text-index;
  few : l.spans.count ≤ 8;
}
