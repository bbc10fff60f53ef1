use Rattle.std.proofs.Common.{◌+◌, sym, subst}
use Rattle.ds_monitor.specs.Inner.Room.{HasLogRoom}
use Rattle.ds_kernel.specs.declared.parts.Parts.{Parts}
use Rattle.ds_kernel.proofs.parts.Parts.serve_call.Goals as goal

pub returns-clause-log : goal.returns-clause-log
returns-clause-log g c = λ n h. c.call.ensures.room n (subst (λ (p : Parts g.row.L.Denot). HasLogRoom (n + 1) p.monitor) (sym c.self.view_is) h)
