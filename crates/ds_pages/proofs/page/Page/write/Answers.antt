use Rattle.std.proofs.Common.{ap, ◌∙◌}
use Rattle.ds_pages.specs.Inner.Places.{known_at}
use Rattle.ds_pages.specs.Inner.Page.{KnownPageState}
use Rattle.ds_pages.proofs.Pages.{page_written}
use Rattle.ds_pages.proofs.page.Page.write.Goals as goal

pub invariant_of-self : goal.invariant_of-self
invariant_of-self c = page_written c.self.inside.words c.self.inside.places c.args.i c.args.word c.self.invariant
    (ap (λ (s : KnownPageState). known_at s.places c.args.i) c.self.view_is ∙ c.requires.unknown)
