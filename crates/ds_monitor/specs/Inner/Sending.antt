-- How a character leaves by the serial lines, and what they are after it.
use Rattle.std.specs.Prelude.{ℕ, ◌^◌, ◌++◌, ◌∷◌, [], List, slice_set, slice_index_or, Option, Some, None}
use Rattle.ds_isa.specs.declared.instr.Size.TheVariants.{Word}
use Rattle.ds_dev.specs.Serial.{sent}
use Rattle.ds_dev.specs.Bus.{BusState, store, with_serial}
use Rattle.ds_procs.specs.declared.call.Call.{Call}
use Rattle.ds_procs.specs.declared.call.Call.TheVariants as call

-- the bus once one line is enabled and a character is written, by the serial lines' registers TCR and TDR
abbrev pub written : BusState → ℕ → ℕ → BusState
written b line byte = (store (store b 0x1FE00010 Word (2 ^ line)).1 0x1FE00018 Word byte).1

-- what then leaves by the lines, as its line and its byte
abbrev pub leaving : BusState → ℕ → ℕ → Option (ℕ × ℕ)
leaving b line byte = (sent (written b line byte).serial).0

-- the consoles' texts after what left: the text of its line ends in its byte
abbrev pub shown : List (List ℕ) → Option (ℕ × ℕ) → List (List ℕ)
shown texts None = texts
shown texts (Some c) = slice_set texts c.0 (slice_index_or texts c.0 [] ++ c.1 ∷ [])

-- the bus once a character has left on a line: that line alone is enabled, and no character waits
abbrev pub with_sent : BusState → ℕ → BusState
with_sent b line = with_serial b (record b.serial { enables = 2 ^ line; waiting = None })

-- the bus after a call of a process on a line: a put sends, and no other call changes the bus
abbrev pub bus_after : Call → ℕ → BusState → BusState
bus_after (call.Put byte) line b = with_sent b line
bus_after other line b = b
