use Rattle.std.proofs.Common.{◌+◌, arith, ◌∙◌, ap}
use Rattle.ds_pages.specs.Inner.Does.{is_known}
use Rattle.ds_pages.proofs.Fits.{rest_fits, others_fit}
use Rattle.ds_pages.proofs.places.Places.put.Goals as goal

pub refresh-requires-clause-next : goal.refresh-requires-clause-next
refresh-requires-clause-next c = rest_fits c.args.self.now c.set.new.self c.args.i c.requires.fits c.set.ensures.fields c.set.ensures.others
    (c.args.i + 1) (omega arith) (omega arith) (omega arith)

pub refresh_before-requires-clause-others : goal.refresh_before-requires-clause-others
refresh_before-requires-clause-others c = others_fit c.set.new.self c.refresh.new.self c.args.i
    (rest_fits c.args.self.now c.set.new.self c.args.i c.requires.fits c.set.ensures.fields c.set.ensures.others)
    c.refresh.ensures.fields c.refresh.ensures.others c.refresh.ensures.fits

pub returns-clause-fields : goal.returns-clause-fields
returns-clause-fields c k other = c.refresh_before.ensures.fields k ∙ (c.refresh.ensures.fields k ∙ c.set.ensures.fields k other)

pub returns-clause-put : goal.returns-clause-put
returns-clause-put c = c.refresh_before.ensures.fields c.args.i ∙ (c.refresh.ensures.fields c.args.i ∙ c.set.ensures.put)

pub returns-clause-others : goal.returns-clause-others
returns-clause-others c k other = c.refresh_before.ensures.known k ∙ (ap is_known (c.refresh.ensures.others k other).done ∙ ap is_known (c.set.ensures.others k other).done)

pub returns-clause-known : goal.returns-clause-known
returns-clause-known c = c.refresh_before.ensures.known c.args.i ∙ (c.refresh.ensures.known ∙ ap is_known c.set.ensures.done)
