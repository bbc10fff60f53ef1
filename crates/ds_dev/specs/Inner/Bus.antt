-- The bus: memory, the serial lines, the clock and the system register, each at its place.
use Rattle.std.specs.Prelude.{ℕ, Bool, ◌&&◌, ◌||◌}
use Rattle.ds_isa.specs.declared.instr.Size.{Size}
use Rattle.ds_isa.specs.declared.instr.Size.TheVariants.{Byte, Half, Word, Part}
use Rattle.ds_dev.specs.Serial.{SerialState, serial_requests}
use Rattle.ds_dev.specs.Clock.{ClockState, clock_requests}
use Rattle.ds_dev.specs.Bus.{BusState, is_enabled}

-- the bytes whose multiple a place in memory has to be
abbrev pub alignment : Size → ℕ
alignment Word = 4
alignment Half = 2
alignment Byte = 1
alignment Part = 1

-- whether one of the devices requests an interrupt
abbrev pub devices_ask : SerialState → ℕ → ClockState → Bool
devices_ask serial system clock = (serial_requests serial && is_enabled system) || clock_requests clock

-- whether there is a request
abbrev pub asks : BusState → Bool
asks b = devices_ask b.serial b.system b.clock
