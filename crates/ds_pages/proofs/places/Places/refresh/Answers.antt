use Rattle.std.proofs.Common.{ap, ℕ, arith, ◌+◌, ◌∙◌}
use Rattle.ds_pages.specs.Inner.Does.{steps}
use Rattle.ds_pages.proofs.Fits.{fits_after}
use Rattle.ds_pages.proofs.places.Places.refresh.Goals as goal

pub returns-clause-fits : goal.returns-clause-fits
returns-clause-fits c = fits_after c.args.self.now c.write.new.self c.args.i c.target_of-target.result c.renewed-does.result
    c.requires.inside c.requires.next (c.write.ensures.fields c.args.i) (c.write.ensures.fields (c.args.i + 1)) (c.write.ensures.others (c.args.i + 1) (omega arith))
    c.renewed-does.ensures.done c.renewed-does.ensures.slot c.target_of-target.ensures
    c.write.ensures.done (c.write.ensures.length ∙ (c.steps-length.ensures ∙ ap (λ (n : ℕ). steps c.renewed-does.result n) c.length.ensures)) c.write.ensures.target c.write.ensures.first c.write.ensures.second
