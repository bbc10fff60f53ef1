-- The serial lines: four lines that share a silo of received characters.
use Rattle.std.specs.Prelude.{ℕ, ◌+◌, ◌*◌, ◌%◌, ◌^◌, Bool, true, false, ◌&&◌, not, nat_lt, nat_le, ◌==◌, if◌then◌else◌, List, [], ◌∷◌, ◌++◌, length, drop, slice_get, Option, Some, None}
use Rattle.ds_word.specs.Word.{bit}
use Rattle.ds_dev.specs.Words.{is_set}
use Rattle.ds_dev.specs.declared.serial.Character.{Character}

-- the registers of the serial lines, and what came in
pub record SerialState : Type 0 where
  -- whether a received character asks for an interrupt
  pub receiver_interrupts : Bool
  -- whether the lines are scanned; without it nothing is received or sent
  pub master_scan : Bool
  -- the enabled lines, one bit each
  pub enables : ℕ
  -- received characters, the oldest first
  pub silo : List Character
  -- whether one was lost since the last that was read
  pub overrun : Bool
  -- the character that waits to leave
  pub waiting : Option Character

-- all registers and flags zero, and no character
abbrev pub serial_at_start : SerialState
serial_at_start = record { receiver_interrupts = false; master_scan = false; enables = 0; silo = []; overrun = false; waiting = None }

-- the lowest enabled line, or 0
abbrev pub lowest_line : ℕ → ℕ
lowest_line enables =
    if is_set enables 0 then 0 else
    if is_set enables 1 then 1 else
    if is_set enables 2 then 2 else
    if is_set enables 3 then 3 else 0

-- whether a character can be sent
abbrev pub can_send : SerialState → Bool
can_send d = d.master_scan && not (d.enables == 0)

-- whether a received character can be read
abbrev pub has_received : SerialState → Bool
has_received d = nat_lt 0 (length d.silo)

-- whether an interrupt is asked for
abbrev pub serial_requests : SerialState → Bool
serial_requests d = has_received d && d.receiver_interrupts

-- what the control register reads
abbrev pub control_word : SerialState → ℕ
control_word d = bit 15 (can_send d) + lowest_line d.enables * 2 ^ 8 + bit 7 (has_received d) + bit 6 d.receiver_interrupts + bit 5 d.master_scan

-- the lines after a write of the control register
abbrev pub with_control : SerialState → ℕ → SerialState
with_control d v = record d { receiver_interrupts = is_set v 6; master_scan = is_set v 5 }

-- the lines after a write of the enabled lines
abbrev pub with_enables : SerialState → ℕ → SerialState
with_enables d v = record d { enables = v % 2 ^ 4 }

-- what a received character is read as
abbrev pub received_word : Bool → Character → ℕ
received_word overrun c = 2 ^ 15 + bit 14 overrun + c.line * 2 ^ 8 + c.byte

-- what is read of the silo, given its oldest character, and the lines after it
abbrev pub taken : SerialState → Option Character → ℕ × SerialState
taken d None = (0, d)
taken d (Some c) = (received_word d.overrun c, record d { silo = drop 1 d.silo; overrun = false })

-- the oldest character is taken
abbrev pub read_silo : SerialState → ℕ × SerialState
read_silo d = taken d (slice_get d.silo 0)

-- a character comes in: whether it was taken, and the lines after it
abbrev pub received : SerialState → ℕ → ℕ → Bool × SerialState
received d line byte =
    if not d.master_scan then (false, d)
    else if nat_le 64 (length d.silo) then (false, record d { overrun = true })
    else (true, record d { silo = d.silo ++ record { line = line % 4; byte = byte } ∷ [] })

-- a character is sent, where one can be; it replaces one that still waits to leave
abbrev pub transmitted : SerialState → ℕ → SerialState
transmitted d byte = if can_send d then record d { waiting = Some (record { line = lowest_line d.enables; byte = byte }) } else d

-- a line and a byte
abbrev pub as_pair : Option Character → Option (ℕ × ℕ)
as_pair None = None
as_pair (Some c) = Some (c.line, c.byte)

-- the character that waited leaves
abbrev pub sent : SerialState → Option (ℕ × ℕ) × SerialState
sent d = (as_pair d.waiting, record d { waiting = None })
