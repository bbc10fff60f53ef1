-- The outcome of a run of a station.
use Rattle.std.specs.Prelude.{◌≡◌, ℕ}
use Rattle.ds_refinement.specs.Held.{Held}
use Rattle.ds_refinement.specs.Inner.Services.{with_failure}
use Rattle.ds_refinement.specs.Real.{RealPath}
use Rattle.ds_refinement.specs.Inner.Runs.{RunsWithin}
use Rattle.ds_kernel.specs.declared.halt.Halt.{Halt}
use Rattle.ds_kernel.specs.Inner.Halts.{Halts}

-- a run for n came from the one to the other by real steps
pub record HasRun (n : ℕ) (old new : Held) : Type 0 where
  pub path : RealPath old new
  pub within : RunsWithin n old new

-- a run for n came by real steps to where the next one was not done
pub record WasCut (n : ℕ) (halt : Halt) (old new : Held) : Type 0 where
  pub last : Held
  pub ran : HasRun n old last
  pub halts : Halts halt last
  pub marked : new ≡ with_failure last
