use Rattle.std.proofs.Common.{sym, subst}
use Rattle.ds_grants.specs.Represented.{IsRepresented}
use Rattle.ds_kernel.specs.declared.parts.Parts.{Parts}
use Rattle.ds_kernel.proofs.parts.Parts.end_unit.Goals as goal

pub returns-clause-represented : goal.returns-clause-represented
returns-clause-represented g c = λ before.
    c.enter.ensures.represented
    (subst (λ (x : Parts g.row.L.Denot). IsRepresented x.core.entries x.bus.memory x.monitor.tables x.monitor.spaces x.monitor.grants) (sym c.count_none.ensures.rest) before)
