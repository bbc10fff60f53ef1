-- What is true of a station, and what its contracts see of it.
use Rattle.std.specs.Prelude.{◌≡◌, ℕ, Bool}
use Rattle.ds_refinement.specs.Held.{Held}
use Rattle.ds_monitor.specs.Inner.Room.{has_turn_room}
use Rattle.ds_kernel.specs.Inner.Good.{IsGood}
use Rattle.ds_kernel.specs.Inner.Parts.{held}
use Rattle.ds_kernel.specs.declared.parts.Parts.{Parts}

-- at any time a station's buffer has 64 slots, of which Random spares 8, and its parts are good
pub record IsStation {L : Type 0} (size spared : ℕ) (p : Parts L) : Type 0 where
  pub slots : size ≡ 64
  pub wired : spared ≡ 8
  pub good : IsGood p

-- what a station holds, and whether it has room for what the longest turn and the commands due after it may write
pub record StationValue : Type 0 where
  pub held : Held
  pub room : Bool

-- the parts of a station as its contracts see them
abbrev pub value_of : {L : Type 0} → Parts L → StationValue
value_of p = record { held = held p; room = has_turn_room p.monitor }
