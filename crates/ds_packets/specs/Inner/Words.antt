-- Words of a packet: parts, numbers, and processes.
use Rattle.std.specs.Prelude.{ℕ, ◌==◌, nat_lt, List, length, Option, Some, None, if◌then◌else◌}
use Rattle.std.specs.List.{position_or_len}
use Rattle.ds_packets.specs.Words.{after_mark}

-- what stands after the first semicolon, if there is one
abbrev pub later : List ℕ → Option (List ℕ)
later text = if nat_lt (position_or_len (λ b. b == 59) text) (length text) then Some (after_mark 59 text) else None
