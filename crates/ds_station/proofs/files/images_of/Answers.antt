use Rattle.std.proofs.Common.{ap, drop, ◌+◌, sym, subst, ◌∙◌, List, ℕ}
use Rattle.std.proofs.Common.{arith}
use Rattle.std.proofs.lemmas.Grind.{common_steps}
use Rattle.ds_pagemap.specs.Inputs.{images_from}
use Rattle.ds_station.specs.Headline.{sources_seen, Refuses}
use Rattle.ds_station.proofs.NamedTexts.{images_past, images_end, images_refused}
use Rattle.ds_station.proofs.files.images_of.Goals as goal

pub returns-in-Err-clause-images : goal.returns-in-Err-clause-images
returns-in-Err-clause-images c = subst (Refuses c.in-Err.fault) (sym c.loop-name.invariant.same) (images_refused (sources_seen c.args.sources.now) c.loop-name.images.items c.args.names.now c.loop-name.name-index c.name-item.result c.in-Err.fault c.name-item.is c.loop-name-test.true c.in-Err.ensures)

pub loop-name-preserved : goal.loop-name-preserved
loop-name-preserved c = record {
  size = grind (arith, common_steps);
  same = c.loop-name.invariant.same ∙ (images_past (sources_seen c.args.sources.now) c.loop-name.images.items c.args.names.now c.loop-name.name-index c.name-item.result c.in-Ok.image c.name-item.is c.loop-name-test.true c.in-Ok.ensures ∙ ap (λ (done : List (List ℕ)). images_from (sources_seen c.args.sources.now) done (drop (c.loop-name.name-index + 1) c.args.names.now)) (sym c.in_ok-push-in-Ok.ensures.items));
}

pub returns-clause-images : goal.returns-clause-images
returns-clause-images c = c.loop-name.invariant.same ∙ images_end (sources_seen c.args.sources.now) c.loop-name.images.items c.args.names.now c.loop-name.name-index c.loop-name-test.false
