use Rattle.ds_ahead.proofs.Stretches.{has_outcome}
use Rattle.ds_ahead.proofs.until.operate_once.Goals as goal

pub returns-else-is_awaited-clause-outcome : goal.returns-else-is_awaited-clause-outcome
returns-else-is_awaited-clause-outcome g c = has_outcome c.operate.result c.in-Some.operation c.args.core.now c.args.at.now c.args.bus.now c.operation_at.new.bus c.operate.new.core c.operate.new.at c.operate.new.bus
    c.requires.calm c.in-Some.ensures.fetched c.operate.ensures.known c.operation_at.ensures.same c.operate.ensures.comes
