use Rattle.std.proofs.Common.{◌∙◌, sym, subst, rules, arith, take}
use Rattle.std.proofs.lemmas.List.{take_more, length-take-le}
use Rattle.ds_policy.specs.Inner.Names.{AreNamed}
use Rattle.ds_policy.proofs.NamedPages.{names_more}
use Rattle.ds_policy.proofs.names.NamedPages.of.Goals as goal

pub loop-page-preserved : goal.loop-page-preserved
loop-page-preserved c = record {
  held = subst (AreNamed c.add.new.self) (sym (take_more c.args.pages.now c.loop-page.page-index c.page-item.result (omega arith)))
      (rw (← c.page-item.is) (names_more c.loop-page.names c.add.new.self (take c.loop-page.page-index c.args.pages.now) c.page-item.result _ c.loop-page.number (search rules) (c.loop-page.invariant.counted ∙ sym (length-take-le c.loop-page.page-index c.args.pages.now (omega arith))) c.loop-page.invariant.held c.in_ok-add.ensures));
  counted = omega (arith, c.loop-page.invariant.counted);
}
