-- The refill handler in memory (Kane and Heinrich, chapters 4 and 6).
use Rattle.std.specs.Prelude.{ℕ, ◌+◌, ◌-◌, ◌/◌, ◌%◌, ◌==◌, ◌&&◌, nat_le, nat_lt, if◌then◌else◌, List, [], ◌∷◌, Option, Some, None}
use Rattle.ds_word.specs.Bytes.{with_word}
use Rattle.ds_refill.specs.Handler.{handler_address}

-- memory with words put one after the other from a place on
abbrev pub with_words : List ℕ → ℕ → List ℕ → List ℕ
with_words memory place [] = memory
with_words memory place (w ∷ ws) = with_words (with_word memory place w) (place + 4) ws

-- the phase of the handler at an address: which of the words stands there
abbrev pub phase_of : ℕ → Option ℕ
phase_of pc = if (nat_le (handler_address 0) pc && nat_lt pc (handler_address 9)) && (pc % 4 == 0) then Some ((pc - handler_address 0) / 4) else None
