-- Worked rows, by computation.
use Rattle.std.specs.Prelude.{◌≡◌, ℕ, zero, suc, true, false, [], ◌∷◌, Some, None, Result, Ok, Err, refl}
use Rattle.ds_isa.specs.declared.instr.Size.TheVariants.{Byte, Half, Word, Part}
use Rattle.ds_dev.specs.Serial.{received, sent}
use Rattle.ds_dev.specs.Bus.{BusState, at_start, with_serial, load, store, lines, after_ticks}
use Rattle.ds_dev.specs.declared.fault.BusError.{BusError}

-- the value that is read, or that nothing is there
abbrev Answer : Type 0
Answer = Result ℕ BusError

-- a bus after a word was stored, and after one was loaded
abbrev stored : BusState → ℕ → ℕ → BusState
stored b a v = (store b a Word v).1

-- what a load of a word answers
abbrev read : BusState → ℕ → Answer
read b a = (load b a Word).0

-- the bus after that load
abbrev after_read : BusState → ℕ → BusState
after_read b a = (load b a Word).1

-- lines that are scanned
abbrev scanned : BusState
scanned = stored (at_start []) 0x1FE00000 0x20

-- so many characters 42 received on line 1
abbrev filled : ℕ → BusState
filled zero = scanned
filled (suc n) = with_serial (filled n) (received (filled n).serial 1 0x42).1

-- a character 41 on line 2: the received character reads 8241, and then 0
abbrev one_received : BusState
one_received = with_serial scanned (received scanned.serial 2 0x41).1

pub one_character : read one_received 0x1FE00008 ∷ read (after_read one_received 0x1FE00008) 0x1FE00008 ∷ [] ≡ Ok 0x8241 ∷ Ok 0 ∷ []
one_character = refl

-- the 64th is taken and the 65th is lost
pub last_taken : (received (filled 63).serial 1 0x42).0 ∷ (received (filled 64).serial 1 0x42).0 ∷ [] ≡ true ∷ false ∷ []
last_taken = refl

-- the next that is read says so, and the one after it doesn't
pub overrun : read (filled 65) 0x1FE00008 ∷ read (after_read (filled 65) 0x1FE00008) 0x1FE00008 ∷ [] ≡ Ok 0xC142 ∷ Ok 0x8142 ∷ []
overrun = refl

-- line 2 enabled: the control register reads 8220, and a character that is sent leaves once
abbrev enabled : BusState
enabled = stored scanned 0x1FE00010 4

-- a bus with a character that waits to leave
abbrev sending : BusState
sending = stored enabled 0x1FE00018 0x141

pub control : read enabled 0x1FE00000 ≡ Ok 0x8220
control = refl

pub leaves : (sent sending.serial).0 ∷ (sent (sent sending.serial).1).0 ∷ [] ≡ Some (2, 0x41) ∷ None ∷ []
leaves = refl

-- rate 3, enabled: nothing after 31 ticks; two more pass the period's end
abbrev ticking : BusState
ticking = after_ticks (stored (stored (at_start []) 0x1FE80028 3) 0x1FE8002C 0x40) 31

-- a bus whose clock has ended a period
abbrev rung : BusState
rung = after_ticks ticking 2

pub clock : read ticking 0x1FE80030 ∷ read rung 0x1FE80030 ∷ read (after_read rung 0x1FE80030) 0x1FE80030 ∷ [] ≡ Ok 0 ∷ Ok 0xC0 ∷ Ok 0 ∷ []
clock = refl

pub clock_asks : lines ticking ∷ lines rung ∷ lines (after_read rung 0x1FE80030) ∷ [] ≡ (false, false) ∷ (false, true) ∷ (false, false) ∷ []
clock_asks = refl

-- the lines' request waits for its two enables
abbrev asking : BusState
asking = stored one_received 0x1FE00000 0x60

pub serial_asks : lines one_received ∷ lines asking ∷ lines (stored asking 0x1FF00000 0x800000) ∷ [] ≡ (false, false) ∷ (false, false) ∷ (true, false) ∷ []
serial_asks = refl

pub system : read (stored asking 0x1FF00000 0xFFFFFFFF) 0x1FF00000 ≡ Ok 0xFF0080
system = refl

-- places and sizes that nothing takes
pub refused : (load scanned 0x1FE00000 Half).0 ∷ (load scanned 0x1FE00000 Part).0 ∷ (load scanned 0x1FE00004 Word).0 ∷ (load scanned 0x1FE80002 Word).0 ∷ (load scanned 0x1FE80100 Word).0 ∷ (load scanned 0x00800000 Word).0 ∷ [] ≡ Err (record {}) ∷ Err (record {}) ∷ Err (record {}) ∷ Err (record {}) ∷ Err (record {}) ∷ Err (record {}) ∷ []
refused = refl

-- memory, lowest byte first
abbrev two_words : BusState
two_words = at_start (0x11 ∷ 0x22 ∷ 0x33 ∷ 0x44 ∷ 0x55 ∷ 0x66 ∷ 0x77 ∷ 0x88 ∷ [])

pub memory : (load two_words 5 Byte).0 ∷ (load two_words 6 Half).0 ∷ (load two_words 4 Word).0 ∷ (load two_words 7 Part).0 ∷ [] ≡ Ok 0x66 ∷ Ok 0x8877 ∷ Ok 0x88776655 ∷ Ok 0x88776655 ∷ []
memory = refl

pub memory_after : (store two_words 5 Byte 0x1AA).1.memory ≡ 0x11 ∷ 0x22 ∷ 0x33 ∷ 0x44 ∷ 0x55 ∷ 0xAA ∷ 0x77 ∷ 0x88 ∷ []
memory_after = refl
