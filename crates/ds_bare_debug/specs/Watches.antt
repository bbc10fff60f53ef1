-- Bytes of memory that are watched: a run stops where one of them changes.
use Rattle.std.specs.Prelude.{ℕ, zero, suc, ◌+◌, ◌==◌, Bool, false, not, if◌then◌else◌, List, [], ◌∷◌, flat_map, Option, Some, None}
use Rattle.ds_word.specs.Word.{word}
use Rattle.ds_bare.specs.Machine.{Machine}
use Rattle.ds_bare.specs.Sights.{byte_seen}
use Rattle.ds_gdb.specs.declared.points.Watchpoint.{Watchpoint}
use Rattle.ds_gdb.specs.declared.stops.Reason.{Reason}
use Rattle.ds_gdb.specs.declared.stops.Reason.TheVariants.{Watch}
use Rattle.ds_bare_debug.specs.declared.watches.Seen.{Seen}

-- a byte of the watch that begins at this address, after so many others, as it is seen now
abbrev pub watched_at : Machine → ℕ → ℕ → Seen
watched_at m first i = record { first = first; place = word (first + i); value = byte_seen m (word (first + i)) }

-- so many bytes of it, the first of which comes after so many others
unfoldable pub watched_from : Machine → ℕ → ℕ → ℕ → List Seen
watched_from m first i zero = []
watched_from m first i (suc n) = watched_at m first i ∷ watched_from m first (i + 1) n

-- all of them
abbrev pub watched_of : Machine → Watchpoint → List Seen
watched_of m w = watched_from m w.address 0 w.length

-- those of all watches
abbrev pub watched_now : Machine → List Watchpoint → List Seen
watched_now m watchpoints = flat_map (watched_of m) watchpoints

-- two values differ; what is not seen, before or now, has none
abbrev pub differ : Option ℕ → Option ℕ → Bool
differ None now = false
differ (Some before) None = false
differ (Some before) (Some now) = not (before == now)

-- a byte is not as it was seen
abbrev pub differs_from : Machine → Seen → Bool
differs_from m s = differ s.value (byte_seen m s.place)

-- what stops by the first byte that is not as it was seen
abbrev pub first_differing : Machine → List Seen → Option Reason
first_differing m [] = None
first_differing m (s ∷ seen) = if differs_from m s then Some (Watch s.first) else first_differing m seen
