use Rattle.std.proofs.Common.{◌≡◌, ℕ, ◌-◌, true, arith, ◌∙◌, subst}
use Rattle.ds_pages.specs.Inner.Page.{knows}
use Rattle.ds_pages.proofs.Pages.{known_kept}
use Rattle.ds_pages.proofs.page.Page.learn.Goals as goal

pub loop-at-preserved : goal.loop-at-preserved
loop-at-preserved c = record {
  from = omega arith;
  inside = omega arith;
  words = c.know.ensures.words ∙ c.loop-at.invariant.words;
  known = λ last. subst (λ (n : ℕ). knows c.know.new.self n ≡ true) (omega arith) c.know.ensures.known;
  kept = λ k known. known_kept c.loop-at.self c.know.new.self (c.loop-at.at - 1) c.know.ensures.known c.know.ensures.others k (c.loop-at.invariant.kept k known);
  fields = λ k known. c.know.ensures.fields k (c.loop-at.invariant.kept k known) ∙ c.loop-at.invariant.fields k known;
  before = λ k early. c.know.ensures.others k (λ e. omega arith) ∙ c.loop-at.invariant.before k early;
}
