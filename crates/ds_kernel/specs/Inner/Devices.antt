-- What a boundary makes of the devices.
use Rattle.std.specs.Prelude.{◌≡◌, ◌<◌, ◌^◌, Bool, true, false, if◌then◌else◌, List, [], ◌∷◌, Option, Some, None}
use Rattle.ds_dev.specs.declared.serial.Character.{Character as Received}
use Rattle.ds_dev.specs.Serial.{SerialState, received}
use Rattle.ds_dev.specs.Bus.{BusState, is_enabled}
use Rattle.ds_cp0.specs.declared.exception.ExceptionCode.TheVariants.{Interrupt}
use Rattle.ds_core.specs.Core.{CoreState, exception, core_at_vector}
use Rattle.ds_policy.specs.declared.command.Character.{Character}
use Rattle.ds_kernel.specs.declared.devices.Typed.{Typed}

-- the lines after characters that came in, one after the other
abbrev pub all_received : SerialState → List Character → SerialState
all_received d [] = d
all_received d (c ∷ rest) = all_received (received d c.line c.byte).1 rest

-- a character of the silo as one of the input; its time is not looked at
abbrev pub typed : Received → Character
typed c = record { time = 0; line = c.line; byte = c.byte }

-- a byte from one of the four lines
pub record IsOfLine (c : Received) : Type 0 where
  pub line : c.line < 4
  pub byte : c.byte < 2 ^ 8

-- the oldest character of the silo, if it has one
abbrev pub oldest : List Received → Option Typed
oldest [] = None
oldest (c ∷ rest) = Some (record { line = c.line; byte = c.byte })

-- one that is read tells that others were lost, so that this is no longer marked
abbrev pub lost_after : List Received → Bool → Bool
lost_after [] lost = lost
lost_after (c ∷ rest) lost = false

-- the lines once all that was received is read
abbrev pub emptied : SerialState → SerialState
emptied d = record d { silo = []; overrun = lost_after d.silo d.overrun }

-- a character that was received asks for the processor
pub record TellsReceived (b : BusState) : Type 0 where
  pub serial : b.serial.receiver_interrupts ≡ true
  pub system : is_enabled b.system ≡ true

-- the processor at the vector of an interrupt, where one was asked for
abbrev pub interrupted : Bool → CoreState → CoreState
interrupted asked c = if asked then core_at_vector c (exception c Interrupt) else c
