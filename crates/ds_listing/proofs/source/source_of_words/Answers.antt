use Rattle.std.proofs.Common.{◌∙◌, ap, sym, subst, arith}
use Rattle.std.proofs.lemmas.Grind.{common_steps}
use Rattle.std.proofs.lemmas.List.{take_all, take_more}
use Rattle.ds_asm.specs.Assembly.{assembled}
use Rattle.ds_listing.specs.Inner.Laws.{EachIsRead}
use Rattle.ds_listing.specs.Inner.Texts.{source_of}
use Rattle.ds_listing.proofs.Sources.{source_read, each_more}
use Rattle.ds_listing.proofs.source.source_of_words.Goals as goal

pub loop-word-preserved : goal.loop-word-preserved
loop-word-preserved c = record {
  text = grind (arith, common_steps);
  read = subst EachIsRead (sym (take_more c.args.words.now c.loop-word.word-index 0 c.loop-word-test.true)) (each_more _ _ c.loop-word.invariant.read c.in_ok-push_word.ensures.read);
}

pub returns-clause-back : goal.returns-clause-back
returns-clause-back c few =
    let whole = take_all c.loop-word.word-index c.args.words.now c.loop-word-test.false in
    ap assembled (c.loop-word.invariant.text ∙ ap source_of whole) ∙ source_read c.args.words.now (subst EachIsRead whole c.loop-word.invariant.read) few
