use Rattle.std.proofs.Common.{rules, ap, ◌∙◌}
use Rattle.ds_monitor.specs.Inner.Room.{HasTurnRoom}
use Rattle.ds_kernel.specs.declared.parts.Parts.{Parts}
use Rattle.ds_kernel.proofs.Rooms.{good_again}
use Rattle.ds_kernel.proofs.parts.Parts.try_clone.Goals as goal

pub returns-clause-good : goal.returns-clause-good
returns-clause-good g c =
    let room : HasTurnRoom c.reserve.new.self.monitor = search rules in
    good_again c.reserve.new.self c.args.self.now
    (c.if-not-reserve.ensures.held ∙ c.in-Ok.ensures.held)
    (ap (λ (p : Parts g.row.L.Denot). p.monitor.quiet_until) c.if-not-reserve.ensures.rest ∙ c.in-Ok.ensures.next)
    room c.requires.good
