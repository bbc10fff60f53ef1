use Rattle.ds_ahead.proofs.Stretches.{has_outcome}
use Rattle.ds_ahead.proofs.stretch.operate_at.Goals as goal

pub returns-in-Some-clause-outcome : goal.returns-in-Some-clause-outcome
returns-in-Some-clause-outcome g c = has_outcome c.operate.result c.in-Some.operation c.args.core.now c.args.at.now c.args.bus.now c.operation_at.new.bus c.operate.new.core c.operate.new.at c.operate.new.bus
    c.requires.calm c.in-Some.ensures.fetched c.operate.ensures.known c.operation_at.ensures.same c.operate.ensures.comes
