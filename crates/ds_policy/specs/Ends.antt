-- Rights that end by themselves: when one has ended, and what is left of its entry.
use Rattle.std.specs.Prelude.{◌≡◌, ◌<◌, ℕ, Bool, false, ◌&&◌, nat_le, if◌then◌else◌, map, Option, Some, None}
use Rattle.std.specs.List.{list_any}
use Rattle.ds_policy.specs.declared.grant.Entry.{Entry}
use Rattle.ds_policy.specs.Pages.{Table}
use Rattle.ds_policy.specs.Grants.{PageState, is_some_right, forbidden_by, live_only}

-- there is an end, and it is this time or earlier
abbrev pub is_reached : ℕ → Option ℕ → Bool
is_reached time None = false
is_reached time (Some end) = nat_le end time

-- the right of an entry has ended by a time
abbrev pub has_expired : ℕ → Entry → Bool
has_expired time e = is_some_right e.grant.right && is_reached time e.grant.until

-- an entry; where its right has ended by a time, its rule alone is left
abbrev pub expired_entry : ℕ → Entry → Entry
expired_entry time e =
    if has_expired time e then record e { grant = forbidden_by e.grant.rule } else e

-- some right in the table has ended by a time
abbrev pub has_some_expired : ℕ → Table → Bool
has_some_expired time table = list_any (λ es. list_any (has_expired time) es) table

-- the table without the rights that have ended by a time
abbrev pub expired_table : ℕ → Table → Table
expired_table time table = map (map (expired_entry time)) table

-- without the rights that have ended by a time, and without a copy that no entry names any more
abbrev pub expired : PageState → ℕ → PageState
expired s time =
    if has_some_expired time s.table
    then live_only (record s { table = expired_table time s.table })
    else s

-- no right in the table ends before a time
abbrev pub NoneEndsBefore : ℕ → Table → Type 0
NoneEndsBefore time table = (t : ℕ) → t < time → has_some_expired t table ≡ false
