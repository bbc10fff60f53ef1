-- The bus: memory, the serial lines, the clock and the system register, each at its place.
use Rattle.std.specs.Prelude.{ℕ, ◌+◌, ◌*◌, ◌/◌, ◌%◌, ◌^◌, Bool, true, false, ◌&&◌, nat_lt, nat_le, ◌==◌, if◌then◌else◌, List, slice_index, slice_set, Result, Ok, Err}
use Rattle.ds_word.specs.Word.{bits, bit}
use Rattle.ds_isa.specs.declared.instr.Size.{Size}
use Rattle.ds_isa.specs.declared.instr.Size.TheVariants.{Byte, Half, Word, Part}
use Rattle.ds_word.specs.Bytes.{word_at, with_word}
use Rattle.ds_dev.specs.Words.{is_set}
use Rattle.ds_dev.specs.Serial.{SerialState, serial_at_start, serial_requests, control_word, with_control, with_enables, read_silo, transmitted}
use Rattle.ds_dev.specs.Clock.{ClockState, clock_at_start, clock_after, clock_requests, read_flags, with_rate, with_enable}
use Rattle.ds_dev.specs.declared.fault.BusError.{BusError}

-- memory and the registers of the devices
pub record BusState : Type 0 where
  -- the bytes of memory
  pub memory : List ℕ
  pub serial : SerialState
  pub clock : ClockState
  -- the enables of the system register, one bit a request
  pub system : ℕ

-- new devices over a memory
abbrev pub at_start : List ℕ → BusState
at_start memory = record { memory = memory; serial = serial_at_start; clock = clock_at_start; system = 0 }

-- the bus with other serial lines
abbrev pub with_serial : BusState → SerialState → BusState
with_serial b d = record b { serial = d }

-- the bus with another clock
abbrev pub with_clock : BusState → ClockState → BusState
with_clock b c = record b { clock = c }

-- whether a physical address lies in memory
abbrev pub is_memory : ℕ → Bool
is_memory a = nat_lt a (2 ^ 23)

-- whether an access is of a whole aligned word, as those of registers are
abbrev pub is_word : Size → Bool
is_word Word = true
is_word Half = false
is_word Byte = false
is_word Part = false

-- what is read of memory at a place; a part of a word is read as its word
abbrev pub memory_load : List ℕ → ℕ → Size → ℕ
memory_load memory a Byte = slice_index memory a
memory_load memory a Half = slice_index memory a + 2 ^ 8 * slice_index memory (a + 1)
memory_load memory a Word = word_at memory a
memory_load memory a Part = word_at memory a

-- memory after a write at a place; a part of a word is written as its word
abbrev pub memory_store : List ℕ → ℕ → Size → ℕ → List ℕ
memory_store memory a Byte v = slice_set memory a (v % 2 ^ 8)
memory_store memory a Half v = slice_set (slice_set memory a (v % 2 ^ 8)) (a + 1) (v / 2 ^ 8 % 2 ^ 8)
memory_store memory a Word v = with_word memory a v
memory_store memory a Part v = with_word memory a v

-- whether the system register's request of the serial lines reaches the processor
abbrev pub is_enabled : ℕ → Bool
is_enabled system = is_set system 7

-- what the system register reads: the serial lines' request in bit 7, the enables in 23 to 16
abbrev pub system_word : BusState → ℕ
system_word b = bit 7 (serial_requests b.serial) + b.system * 2 ^ 16

-- the requests to IP2 and to IP3
abbrev pub lines : BusState → Bool × Bool
lines b = (serial_requests b.serial && is_enabled b.system, clock_requests b.clock)

-- whether a place is that of one of the clock's 64 registers
abbrev pub is_clock : ℕ → Bool
is_clock a = nat_le 0x1FE80000 a && nat_lt a 0x1FE80100 && (a % 4 == 0)

-- a load that changes nothing
abbrev pub answers : BusState → ℕ → Result ℕ BusError × BusState
answers b v = (Ok v, b)

-- a load that the serial lines answer
abbrev pub serial_answers : BusState → ℕ × SerialState → Result ℕ BusError × BusState
serial_answers b r = (Ok r.0, with_serial b r.1)

-- a load that the clock answers
abbrev pub clock_answers : BusState → ℕ × ClockState → Result ℕ BusError × BusState
clock_answers b r = (Ok r.0, with_clock b r.1)

-- a load that nothing answers
abbrev pub nothing_answers : BusState → Result ℕ BusError × BusState
nothing_answers b = (Err (record {}), b)

-- a load of a register
abbrev pub register_load : BusState → ℕ → Result ℕ BusError × BusState
register_load b a =
    if a == 0x1FE00000 then answers b (control_word b.serial) else
    if a == 0x1FE00008 then serial_answers b (read_silo b.serial) else
    if a == 0x1FE00010 then answers b b.serial.enables else
    if a == 0x1FE00018 then answers b 0 else
    if a == 0x1FE80028 then answers b b.clock.rate else
    if a == 0x1FE8002C then answers b (bit 6 b.clock.enabled) else
    if a == 0x1FE80030 then clock_answers b (read_flags b.clock) else
    if a == 0x1FF00000 then answers b (system_word b) else
    if is_clock a then answers b 0 else nothing_answers b

-- a load: its answer, and the bus after it
abbrev pub load : BusState → ℕ → Size → Result ℕ BusError × BusState
load b a size =
    if is_memory a then answers b (memory_load b.memory a size) else
    if is_word size then register_load b a else nothing_answers b

-- a store that leaves this bus
abbrev pub store_taken : BusState → Result (Unit {0}) BusError × BusState
store_taken b = (Ok tt, b)

-- a store that nothing takes
abbrev pub nothing_takes : BusState → Result (Unit {0}) BusError × BusState
nothing_takes b = (Err (record {}), b)

-- a store to a register
abbrev pub register_store : BusState → ℕ → ℕ → Result (Unit {0}) BusError × BusState
register_store b a v =
    if a == 0x1FE00000 then store_taken (with_serial b (with_control b.serial v)) else
    if a == 0x1FE00008 then store_taken b else
    if a == 0x1FE00010 then store_taken (with_serial b (with_enables b.serial v)) else
    if a == 0x1FE00018 then store_taken (with_serial b (transmitted b.serial (bits v 0 8))) else
    if a == 0x1FE80028 then store_taken (with_clock b (with_rate b.clock v)) else
    if a == 0x1FE8002C then store_taken (with_clock b (with_enable b.clock v)) else
    if a == 0x1FF00000 then store_taken (record b { system = bits v 16 8 }) else
    if is_clock a then store_taken b else nothing_takes b

-- a store: whether something took it, and the bus after it
abbrev pub store : BusState → ℕ → Size → ℕ → Result (Unit {0}) BusError × BusState
store b a size v =
    if is_memory a then store_taken (record b { memory = memory_store b.memory a size v }) else
    if is_word size then register_store b a v else nothing_takes b

-- the bus some ticks later
abbrev pub after_ticks : BusState → ℕ → BusState
after_ticks b ticks = with_clock b (clock_after b.clock ticks)
