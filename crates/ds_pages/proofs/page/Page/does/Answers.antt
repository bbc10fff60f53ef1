use Rattle.std.proofs.Common.{◌∙◌, sym, ap, subst}
use Rattle.ds_pages.specs.Inner.Does.{is_load}
use Rattle.ds_pages.specs.Inner.Places.{does_at}
use Rattle.ds_pages.specs.Inner.Page.{KnownPageState, IsPage}
use Rattle.ds_pages.proofs.Known.{first_is_free, second_is_free}
use Rattle.ds_pages.proofs.page.Page.does.Goals as goal

pub returns-clause-free : goal.returns-clause-free
returns-clause-free c h =
    let page : IsPage c.args.self.now = subst (λ (s : KnownPageState). IsPage s) c.self.view_is c.self.invariant in
    let loads = sym (ap is_load (c.does.ensures ∙ ap (λ (s : KnownPageState). does_at s.places c.args.i) c.self.view_is)) ∙ h in (
      first_is_free c.args.self.now.places c.args.i (page.fits c.args.i c.requires) loads,
      second_is_free c.args.self.now.places c.args.i (page.fits c.args.i c.requires) loads,
    )
