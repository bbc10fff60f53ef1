use Rattle.ds_source_reasons.proofs.Fronts.{second_ended}
use Rattle.ds_source_reasons.proofs.likeness.common_front.Goals as goal

pub returns-else-count-b-clause-exact : goal.returns-else-count-b-clause-exact
returns-else-count-b-clause-exact c = second_ended c.loop-count.count _ c.args.a.now c.args.b.now c.if-count-b.false c.loop-count.invariant.same
