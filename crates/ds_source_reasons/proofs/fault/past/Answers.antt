use Rattle.ds_source_reasons.proofs.Passed.{place_kept, rest_kept}
use Rattle.ds_source_reasons.proofs.fault.past.Goals as goal

pub loop-preserved : goal.loop-preserved
loop-preserved c = record {
  place = place_kept c.args.count c.loop.counter c.loop.place c.place_past-place.result _ c.loop.rest.now c.first_line.result.0.now c.first_line.result.1.now c.loop-test.true c.place_past-place.ensures c.first_line.ensures.line c.first_line.ensures.after c.loop.invariant.place;
  rest = rest_kept c.args.count c.loop.counter c.loop.rest.now c.first_line.result.1.now _ c.loop-test.true c.first_line.ensures.after c.loop.invariant.rest;
}
