use Rattle.std.proofs.Common.{◌≤◌, arith}
use Rattle.ds_words.specs.Spans.{spans_in, WritesSpan}
use Rattle.ds_words.proofs.SpanTexts.{spans_good}
use Rattle.ds_words.proofs.WindowTexts.{read_on, not_read, no_room}
use Rattle.ds_words.proofs.spans.spans_of.Goals as goal

pub returns-in_err-span_of-clause-none : goal.returns-in_err-span_of-clause-none
returns-in_err-span_of-clause-none c is spans write =
    not_read WritesSpan c.args.texts.now spans c.loop-text.text-index _ (omega arith) write.each (c.span_of.ensures.none c.in_err-span_of.was)

pub returns-in_err-spans-clause-none : goal.returns-in_err-spans-clause-none
returns-in_err-spans-clause-none c is spans write =
    let full : 8 ≤ c.loop-text.spans.count = c.with.ensures.none c.in_err-spans.was in
    no_room WritesSpan c.args.texts.now spans c.loop-text.text-index (omega arith) (let same = c.loop-text.invariant.counted in omega (arith, same, full)) write.each write.few

pub loop-text-preserved : goal.loop-text-preserved
loop-text-preserved c = record {
  each = read_on WritesSpan c.args.texts.now (spans_in c.loop-text.spans) (spans_in c.in_ok-spans.spans) c.loop-text.text-index _ c.in_ok-span_of.field-0 (omega arith)
      c.loop-text.invariant.each c.in_ok-span_of.ensures.some c.in_ok-spans.ensures.some;
  counted = let same = c.loop-text.invariant.counted in let one = c.in_ok-spans.ensures.one in omega (arith, same, one);
  few = c.in_ok-spans.ensures.few;
}

pub returns-clause-good : goal.returns-clause-good
returns-clause-good c = spans_good _ (spans_in c.loop-text.spans) c.loop-text.invariant.each
