use Rattle.std.proofs.Common.{sym, subst}
use Rattle.ds_ahead.specs.Inner.Ride.{ridden}
use Rattle.ds_kernel.specs.declared.parts.Parts.{Parts}
use Rattle.ds_kernel.specs.Inner.InBlock.{IsBehindCall}
use Rattle.ds_kernel.proofs.OnRides.{block_opened, block_closed, on_some}
use Rattle.ds_kernel.proofs.parts.Parts.ride.Goals as goal

pub returns-in-Ok-clause-over : goal.returns-in-Ok-clause-over
returns-in-Ok-clause-over g c = λ none begun k.
    let gone = c.ride_on-next in
    subst (λ (p : Parts g.row.L.Denot). IsBehindCall begun c.args.n c.args.end gone.new.ride.left p) (sym c.close_ride.ensures)
    (gone.ensures.over none begun (block_opened begun c.args.n c.args.end c.args.mark.now c.args.left.now c.args.before.now c.args.self.now k c.open_ride.new.self c.in-Ok.begun c.open_ride.ensures.same c.in-Ok.ensures.here c.in-Ok.ensures.left))

pub returns-in-Ok-clause-block : goal.returns-in-Ok-clause-block
returns-in-Ok-clause-block g c =
    let gone = c.ride_on-next in
    on_some gone.result _ _ (λ next on begun k.
    block_closed begun c.args.n c.args.end gone.new.mark gone.new.ride.left gone.new.before (ridden gone.new.ride gone.new.self.core) gone.new.self
    (on begun (block_opened begun c.args.n c.args.end c.args.mark.now c.args.left.now c.args.before.now c.args.self.now k c.open_ride.new.self c.in-Ok.begun c.open_ride.ensures.same c.in-Ok.ensures.here c.in-Ok.ensures.left))
    c.close_ride.new.self c.close_ride.ensures) gone.ensures.block
