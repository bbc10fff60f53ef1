-- The clock, which asks for an interrupt once in a period of its rate.
use Rattle.std.specs.Prelude.{ℕ, ◌+◌, ◌/◌, ◌%◌, ◌^◌, Bool, false, ◌&&◌, ◌||◌, nat_lt, nat_le}
use Rattle.ds_word.specs.Word.{bit}
use Rattle.ds_dev.specs.Words.{is_set}

-- the clock's registers and its time
pub record ClockState : Type 0 where
  -- 0 to 15; a rate r from 3 up has a period of 2^(r + 2) ticks, a lower one none
  pub rate : ℕ
  pub enabled : Bool
  -- whether a period has ended since this was last read
  pub flagged : Bool
  -- in ticks, modulo 2^17
  pub time : ℕ

-- all zero
abbrev pub clock_at_start : ClockState
clock_at_start = record { rate = 0; enabled = false; flagged = false; time = 0 }

-- whether a period of the rate ends within the next ticks
abbrev pub rings : ℕ → ℕ → ℕ → Bool
rings rate time ticks = nat_le 3 rate && nat_lt (time / 2 ^ (rate + 2)) ((time + ticks) / 2 ^ (rate + 2))

-- the clock some ticks later
abbrev pub clock_after : ClockState → ℕ → ClockState
clock_after c ticks = record c { flagged = c.flagged || rings c.rate c.time ticks; time = (c.time + ticks) % 2 ^ 17 }

-- whether an interrupt is asked for
abbrev pub clock_requests : ClockState → Bool
clock_requests c = c.flagged && c.enabled

-- what the register of flags reads
abbrev pub flags_word : ClockState → ℕ
flags_word c = bit 7 (clock_requests c) + bit 6 c.flagged

-- reading the flags clears them
abbrev pub read_flags : ClockState → ℕ × ClockState
read_flags c = (flags_word c, record c { flagged = false })

-- the clock after a write of its rate
abbrev pub with_rate : ClockState → ℕ → ClockState
with_rate c v = record c { rate = v % 2 ^ 4 }

-- the clock after a write of its enable
abbrev pub with_enable : ClockState → ℕ → ClockState
with_enable c v = record c { enabled = is_set v 6 }
