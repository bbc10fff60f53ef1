use Rattle.std.proofs.Common.{ap}
use Rattle.std.specs.Prelude.{slice_index}
use Rattle.ds_pages.specs.Inner.Places.{Fields, fields_at}
use Rattle.ds_pages.proofs.Pages.{page_put, none_means}
use Rattle.ds_pages.proofs.page.Page.forget_operation.Goals as goal

pub invariant_of-self : goal.invariant_of-self
invariant_of-self c = page_put c.self.inside.words c.self.inside.places c.put.new.self c.args.i c.requires c.self.invariant
    c.put.ensures.fits c.put.ensures.fields c.put.ensures.others
    (none_means (fields_at c.put.new.self c.args.i) (slice_index c.self.inside.words c.args.i) (ap (λ (f : Fields). f.kind) c.put.ensures.put))
    (λ unknown. ap (λ (f : Fields). f.kind) c.put.ensures.put)
