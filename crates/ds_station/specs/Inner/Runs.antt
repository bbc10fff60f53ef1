-- The outcome of a run of a station where it is cut short.
use Rattle.std.specs.Prelude.{◌≡◌}
use Rattle.ds_refinement.specs.Held.{Held}
use Rattle.ds_refinement.specs.Inner.Services.{with_failure}
use Rattle.ds_refinement.specs.Real.{RealPath}
use Rattle.ds_station.specs.Faults.{RefusesStep}
use Rattle.ds_station.specs.declared.fault.Fault.{Fault}

-- a run came by real steps to where the next one is refused by this fault, and has failed there
pub record IsCut (f : Fault) (old new : Held) : Type 0 where
  pub last : Held
  pub path : RealPath old last
  pub refused : RefusesStep f last
  pub marked : new ≡ with_failure last
