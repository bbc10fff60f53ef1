-- How a run goes forward, turn by turn, to where something stops.
use Rattle.std.specs.Prelude.{◌≡◌, ◌⊎◌}
use Rattle.ds_refinement.specs.Held.{Held}
use Rattle.ds_refinement.specs.Real.{RealPath}
use Rattle.ds_station.specs.Inner.Runs.{IsCut}
use Rattle.ds_station.specs.declared.fault.Fault.{Fault}
use Rattle.ds_station.specs.declared.fault.Fault.TheVariants.{Memory}

-- it was cut short by this fault: the next step is refused, or memory ran out before a turn
abbrev pub IsShort : Fault → Held → Held → Type 0
IsShort f old new = IsCut f old new ⊎ ((f ≡ Memory) × RealPath old new)
