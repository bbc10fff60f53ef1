use Rattle.std.proofs.Common.{ap}
use Rattle.ds_ahead.specs.Inner.Placed.{Place}
use Rattle.ds_ahead.proofs.Runs.{outcome_in_page}
use Rattle.ds_ahead.proofs.run.do_slot_operation.Goals as goal

pub returns-clause-outcome : goal.returns-clause-outcome
returns-clause-outcome g c = outcome_in_page c.execute.result c.operation.result c.args.page.now c.args.i c.args.code.now.vpn c.args.code.now.base
    c.args.core.now c.args.at.now c.args.bus.now c.execute.new.core c.execute.new.at c.execute.new.bus
    (ap (λ (a : Place). a.pc) c.requires.here) c.requires.inside c.requires.known c.requires.some_page c.args.code.now.inside c.requires.holds c.requires.calm
    c.operation.ensures.means c.execute.ensures.known c.execute.ensures.comes
