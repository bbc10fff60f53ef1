use Rattle.ds_debug.proofs.Shown.{shown_from}
use Rattle.ds_debug.proofs.registers.Registers.of.Goals as goal

pub returns-clause-stands : goal.returns-clause-stands
returns-clause-stands g c = λ none m k.
    shown_from c.args.station.now.held c.args.process _ _ _ _ c.general.ensures.held c.hi.ensures c.lo.ensures c.address.ensures c.requires.above none m k
