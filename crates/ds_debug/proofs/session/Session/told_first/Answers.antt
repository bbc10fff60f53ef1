use Rattle.std.proofs.Common.{arith}
use Rattle.ds_debug.proofs.Settings.{unended_small}
use Rattle.ds_debug.proofs.session.Session.told_first.Goals as goal

pub returns-in-Some-first_unended-clause-small : goal.returns-in-Some-first_unended-clause-small
returns-in-Some-first_unended-clause-small c =
    unended_small c.self.inside.station.held.kept.state c.in-Some-first_unended.unended c.in-Some-first_unended.ensures.held (omega (arith, c.processes-few.ensures.held, c.processes-few.ensures.few))
