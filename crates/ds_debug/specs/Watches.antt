-- Bytes of memory that are watched: a run stops where one of them changes.
use Rattle.std.specs.Prelude.{ℕ, zero, suc, ◌+◌, ◌==◌, Bool, true, false, not, if◌then◌else◌, List, [], ◌∷◌, flat_map, Option, Some, None}
use Rattle.ds_refinement.specs.Held.{Held}
use Rattle.ds_station.specs.Reads.{memory_held}
use Rattle.ds_debug.specs.Answers.{is_there}
use Rattle.ds_debug.specs.Memory.{byte_read}
use Rattle.ds_debug.specs.Sights.{sight_held}
use Rattle.ds_debug.specs.declared.watches.Seen.{Seen}
use Rattle.ds_gdb.specs.declared.points.Watchpoint.{Watchpoint}

-- the byte of a watch after so many others, where its process may load it; one that it may not load has no value
abbrev pub value_at : Held → Watchpoint → ℕ → Option ℕ
value_at h w i = if is_there (sight_held h) w.process then byte_read (memory_held h) w.process (w.address + i) else None

-- it, as it is seen now
abbrev pub seen_at : Held → Watchpoint → ℕ → Seen
seen_at h w i = record { watchpoint = w; index = i; value = value_at h w i }

-- so many bytes of a watch, the first of which comes after so many others
unfoldable pub seen_from : Held → Watchpoint → ℕ → ℕ → List Seen
seen_from h w i zero = []
seen_from h w i (suc n) = seen_at h w i ∷ seen_from h w (i + 1) n

-- all of them
abbrev pub seen_of : Held → Watchpoint → List Seen
seen_of h w = seen_from h w 0 w.length

-- those of all watches
abbrev pub all_seen : Held → List Watchpoint → List Seen
all_seen h watchpoints = flat_map (seen_of h) watchpoints

-- a value is not what it was before; a byte that may not be loaded any more is none
abbrev pub is_new : Option ℕ → Option ℕ → Bool
is_new before None = false
is_new None (Some now) = true
is_new (Some before) (Some now) = not (before == now)
