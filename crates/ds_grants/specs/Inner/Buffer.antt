-- What a translation lookaside buffer may hold: what page tables have of what is granted.
use Rattle.std.specs.Prelude.{ℕ, List, slice_set, unwrap_or}
use Rattle.ds_tlb.specs.declared.entry.Entry.{Entry}
use Rattle.ds_tlb.specs.Entries.{find}
use Rattle.ds_tlb.specs.Words.{entry_of}
use Rattle.ds_grants.specs.State.{GrantsState}
use Rattle.ds_tables.specs.Places.{Places}
use Rattle.ds_grants.specs.Buffer.{hi_of, lo_of}

-- the entry that maps a page of a process in an address space
abbrev pub entry_for : GrantsState → Places → ℕ → ℕ → ℕ → Entry
entry_for g t p asid vpn = entry_of (hi_of vpn asid) (lo_of g t p vpn)

-- with this entry in the place of what an address space has for its page, or in this slot where it
-- has nothing
abbrev pub filled : List Entry → ℕ → ℕ → ℕ → Entry → List Entry
filled entries vpn asid slot e = slice_set entries (unwrap_or (find entries vpn asid) slot) e
