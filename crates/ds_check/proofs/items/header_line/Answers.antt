use Rattle.std.proofs.Common.{◌∙◌, ◌+◌, ◌-◌, ◌&&◌, ap, sym, length, nat_le, Bool, ℕ}
use Rattle.std.specs.Prelude.{if◌then◌else◌}
use Rattle.ds_asm.specs.Assembly.{lines_of}
use Rattle.ds_asm.proofs.SourceLines.{after_within, lines_of-first}
use Rattle.ds_check.specs.Items.{header_from}
use Rattle.ds_check.proofs.ItemSteps.{header_here, header_later}
use Rattle.ds_check.proofs.items.header_line.Goals as goal

pub returns-then-is_last-clause-exact : goal.returns-then-is_last-clause-exact
returns-then-is_last-clause-exact c =
    header_here c.args.header.now c.loop-left.number c.loop-left.more _ _ _
    (lines_of-first c.loop-left.left.now _ _ (sym c.loop-left-test.ensures) c.first_line.ensures.line c.first_line.ensures.after)
    (ap (λ (b : Bool). b && nat_le c.loop-left.more 1) (sym c.begins_with_word-is_one.ensures) ∙ (sym c.is_last.ensures ∙ c.if-is_last.true))
    ∙ c.loop-left.invariant.same

pub loop-left-preserved : goal.loop-left-preserved
loop-left-preserved c = record {
  same = ap (λ (k : ℕ). header_from c.args.header.now (c.loop-left.number + 1) k (lines_of c.first_line.result.1.now))
      (c.one_less-more.ensures ∙ ap (λ (b : Bool). if b then c.loop-left.more - 1 else c.loop-left.more) c.begins_with_word-is_one.ensures)
      ∙ (header_later c.args.header.now c.loop-left.number c.loop-left.more _ _ _
      (lines_of-first c.loop-left.left.now _ _ (sym c.loop-left-test.ensures) c.first_line.ensures.line c.first_line.ensures.after)
      (ap (λ (b : Bool). b && nat_le c.loop-left.more 1) (sym c.begins_with_word-is_one.ensures) ∙ (sym c.is_last.ensures ∙ c.if-is_last.false))
      ∙ c.loop-left.invariant.same);
  within = after_within c.loop-left.number (1 + length c.args.text.now) c.loop-left.left.now _ c.first_line.ensures.after (sym c.loop-left-test.ensures) c.loop-left.invariant.within;
}
