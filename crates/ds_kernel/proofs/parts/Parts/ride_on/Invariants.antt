use Rattle.std.proofs.Common.{◌≤◌}
use Rattle.ds_ahead.specs.Inner.Ride.{ridden, Rides, IsPlaced}
use Rattle.ds_refinement.specs.Held.{Held}
use Rattle.ds_kernel.specs.Inner.InBlock.{InBlock}
use Rattle.ds_kernel.proofs.parts.Parts.ride_on.Given as goal

abbrev pub invariant-loop-self : goal.invariant-loop-self
invariant-loop-self g l = record {
  rides : Rides l.ride l.self.core l.self.bus;
  placed : IsPlaced l.ride;
  within : l.ride.left ≤ l.fn.ride.left;
  block : (begun : Held) → InBlock begun l.n l.end l.fn.mark l.fn.ride.left l.fn.before (ridden l.fn.ride l.fn.self.core) l.fn.self
      → InBlock begun l.n l.end l.mark l.ride.left l.before (ridden l.ride l.self.core) l.self;
}

abbrev pub decreases-loop-self : goal.decreases-loop-self
decreases-loop-self g l = l.ride.left
