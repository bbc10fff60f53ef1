-- Which steps of the station are steps of the processor.
use Rattle.std.specs.Prelude.{⊤}
use Rattle.ds_cp0.specs.declared.exception.ExceptionCode.TheVariants.{FetchBus, DataBus}
use Rattle.ds_core.specs.declared.event.Event.{Event}
use Rattle.ds_core.specs.declared.event.Event.TheVariants.{Raised}

-- an event that tells no bus error
abbrev pub IsNoBusError : Event → Type 0
IsNoBusError (Raised FetchBus) = ⊥
IsNoBusError (Raised DataBus) = ⊥
IsNoBusError other = ⊤
