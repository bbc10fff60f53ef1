use Rattle.std.proofs.Common.{◌∙◌, ◌+◌, sym, length}
use Rattle.ds_asm.proofs.SourceLines.{after_within, lines_of-first}
use Rattle.ds_check.proofs.ItemSteps.{key_barred, key_here, key_later}
use Rattle.ds_check.proofs.items.key_line.Goals as goal

pub returns-then-begins_with_word : goal.returns-then-begins_with_word
returns-then-begins_with_word c =
    key_barred c.args.key.now c.loop-left.number _ _ _
    (lines_of-first c.loop-left.left.now _ _ (sym c.loop-left-test.ensures) c.first_line.ensures.line c.first_line.ensures.after)
    (sym c.begins_with_word.ensures ∙ c.if-begins_with_word.true)
    ∙ c.loop-left.invariant.same

pub returns-then-begins_key : goal.returns-then-begins_key
returns-then-begins_key c =
    key_here c.args.key.now c.loop-left.number _ _ _
    (lines_of-first c.loop-left.left.now _ _ (sym c.loop-left-test.ensures) c.first_line.ensures.line c.first_line.ensures.after)
    (sym c.begins_with_word.ensures ∙ c.if-begins_with_word.false) (sym c.begins_key.ensures ∙ c.if-begins_key.true)
    ∙ c.loop-left.invariant.same

pub loop-left-preserved : goal.loop-left-preserved
loop-left-preserved c = record {
  same = key_later c.args.key.now c.loop-left.number _ _ _
      (lines_of-first c.loop-left.left.now _ _ (sym c.loop-left-test.ensures) c.first_line.ensures.line c.first_line.ensures.after)
      (sym c.begins_with_word.ensures ∙ c.if-begins_with_word.false) (sym c.begins_key.ensures ∙ c.if-begins_key.false)
      ∙ c.loop-left.invariant.same;
  within = after_within c.loop-left.number (c.args.first + length c.args.text.now) c.loop-left.left.now _ c.first_line.ensures.after (sym c.loop-left-test.ensures) c.loop-left.invariant.within;
}
