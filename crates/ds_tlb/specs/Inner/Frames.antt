-- The frame that a buffer names for a page.
use Rattle.std.specs.Prelude.{ℕ, ◌*◌, ◌%◌, ◌^◌, Bool, not, ◌&&◌, ◌||◌, if◌then◌else◌, List, slice_get, Option, Some, None}
use Rattle.ds_tlb.specs.declared.entry.Entry.{Entry}
use Rattle.ds_tlb.specs.Entries.{find}

-- the first physical address of an entry's frame, where the entry is valid and, for a store, dirty
abbrev pub base_in : Bool → Option Entry → Option ℕ
base_in store None = None
base_in store (Some e) = if e.v && (not store || e.d) then Some (e.pfn % 2 ^ 20 * 2 ^ 12) else None

-- the entry of the slot that a search found
abbrev pub entry_in : List Entry → Option ℕ → Option Entry
entry_in entries None = None
entry_in entries (Some slot) = slice_get entries slot

-- the first physical address of the frame that a page of an address space has
abbrev pub base_of : List Entry → Bool → ℕ → ℕ → Option ℕ
base_of entries store vpn asid = base_in store (entry_in entries (find entries vpn asid))
