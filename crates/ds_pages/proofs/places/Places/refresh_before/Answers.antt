use Rattle.std.proofs.Common.{rules, ◌-◌, arith, ◌∙◌}
use Rattle.ds_pages.proofs.Fits.{others_fit, all_fit, known_after}
use Rattle.ds_pages.proofs.places.Places.refresh_before.Goals as goal

pub returns-then-not-refresh-clause-fits : goal.returns-then-not-refresh-clause-fits
returns-then-not-refresh-clause-fits c = all_fit c.loop-at.self c.refresh.new.self (c.loop-at.at - 1)
    (λ k inside other. c.loop-at.invariant.others k inside (λ e. other (omega arith)))
    c.refresh.ensures.fields c.refresh.ensures.others c.refresh.ensures.fits (c.refresh.ensures.calm (search rules)) (c.refresh.ensures.same (search rules))

pub returns-then-not-refresh-clause-known : goal.returns-then-not-refresh-clause-known
returns-then-not-refresh-clause-known c k = known_after c.loop-at.self c.refresh.new.self (c.loop-at.at - 1) k c.refresh.ensures.others c.refresh.ensures.known ∙ c.loop-at.invariant.known k

pub loop-at-preserved : goal.loop-at-preserved
loop-at-preserved c = record {
  inside = omega arith;
  others = others_fit c.loop-at.self c.refresh.new.self (c.loop-at.at - 1)
      (λ k inside other apart. c.loop-at.invariant.others k inside (λ e. other (omega arith)))
      c.refresh.ensures.fields c.refresh.ensures.others c.refresh.ensures.fits;
  fields = λ k. c.refresh.ensures.fields k ∙ c.loop-at.invariant.fields k;
  known = λ k. known_after c.loop-at.self c.refresh.new.self (c.loop-at.at - 1) k c.refresh.ensures.others c.refresh.ensures.known ∙ c.loop-at.invariant.known k;
}
