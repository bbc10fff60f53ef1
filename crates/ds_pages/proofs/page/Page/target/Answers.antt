use Rattle.std.proofs.Common.{arith, ℕ, ◌≡◌, ◌*◌, ◌<◌, ◌∙◌, sym, ap, subst}
use Rattle.ds_pages.specs.Inner.Places.{fields_at, target_at, offset_of}
use Rattle.ds_pages.specs.Inner.Page.{KnownPageState, IsPage}
use Rattle.ds_pages.proofs.Known.{leads}
use Rattle.ds_pages.proofs.page.Page.target.Goals as goal

pub returns-clause-inside : goal.returns-clause-inside
returns-clause-inside c =
    let page : IsPage c.args.self.now = subst (λ (s : KnownPageState). IsPage s) c.self.view_is c.self.invariant in
    subst (λ (n : ℕ). n < 1024) (sym (c.from.ensures ∙ (c.target.ensures ∙ ap (λ (s : KnownPageState). target_at s.places c.args.i) c.self.view_is)))
    (leads c.args.self.now.places c.args.i (page.fits c.args.i (omega arith)) c.requires.branch).1

pub returns-clause-place : goal.returns-clause-place
returns-clause-place c =
    let page : IsPage c.args.self.now = subst (λ (s : KnownPageState). IsPage s) c.self.view_is c.self.invariant in
    subst (λ (n : ℕ). 4 * n ≡ offset_of c.args.i (fields_at c.args.self.now.places c.args.i).immediate) (sym (c.from.ensures ∙ (c.target.ensures ∙ ap (λ (s : KnownPageState). target_at s.places c.args.i) c.self.view_is)))
    (leads c.args.self.now.places c.args.i (page.fits c.args.i (omega arith)) c.requires.branch).0
