-- What a translation lookaside buffer may hold: what page tables have of what is granted.
use Rattle.std.specs.Prelude.{◌≡◌, ◌⊎◌, ℕ, ◌+◌, ◌-◌, ◌*◌, ◌^◌, ◌<◌, ◌≤◌, false, nat_lt, if◌then◌else◌, List, length, slice_get, Some}
use Rattle.ds_tlb.specs.declared.entry.Entry.{Entry}
use Rattle.ds_tlb.specs.Entries.{empty_entry}
use Rattle.ds_tlb.specs.Singles.{IsSingle}
use Rattle.ds_tlb.specs.Words.{entry_of}
use Rattle.ds_grants.specs.State.{GrantsState}
use Rattle.ds_tables.specs.Places.{Places, page_of_table}
use Rattle.ds_asid.specs.Spaces.{Spaces, space_number}
use Rattle.ds_grants.specs.Words.{granted_word}

-- EntryHi of a page in an address space
abbrev pub hi_of : ℕ → ℕ → ℕ
hi_of vpn asid = vpn * 2 ^ 12 + asid * 2 ^ 6

-- EntryLo of a frame: valid, and not to be written
abbrev pub read_only : ℕ → ℕ
read_only frame = frame * 2 ^ 12 + 2 ^ 9

-- EntryLo of a page of a process: the page-table word of a user's page, and the frame of a page of
-- the process's page table
abbrev pub lo_of : GrantsState → Places → ℕ → ℕ → ℕ
lo_of g t p vpn =
    if nat_lt vpn (2 ^ 19) then granted_word g p vpn
    else read_only (page_of_table t p (vpn - 0xC0000))

-- a user's page, or one of the 512 pages of a page table, which begins at C0000000
abbrev pub IsMapped : ℕ → Type 0
IsMapped vpn = (vpn < 2 ^ 19) ⊎ ((0xC0000 ≤ vpn) × (vpn < 0xC0200))

-- the entry is of a page that a process may have, and has that process's EntryLo of it
pub record IsBacked (g : GrantsState) (t : Places) (p : ℕ) (e : Entry) : Type 0 where
  pub mapped : IsMapped e.vpn
  pub words : e ≡ entry_of (hi_of e.vpn e.asid) (lo_of g t p e.vpn)

-- No two entries match, each entry of a process's address space has the process's EntryLo of its
-- page, and no entry has a number that is still to be handed out.
pub record BufferHolds (entries : List Entry) (s : Spaces) (g : GrantsState) (t : Places)
    : Type 0 where
  pub few : length entries ≤ 64
  pub single : IsSingle entries
  -- an entry is of a page that a process may have, or it is what its slot holds at the start
  pub apart : (slot : ℕ) (e : Entry) → slice_get entries slot ≡ Some e
      → IsMapped e.vpn ⊎ (e ≡ empty_entry slot)
  -- no entry answers in each address space
  pub own : (slot : ℕ) (e : Entry) → slice_get entries slot ≡ Some e → e.g ≡ false
  pub backed : (slot : ℕ) (e : Entry) (p : ℕ) → slice_get entries slot ≡ Some e
      → 0 < p → 0 < e.asid → space_number s p ≡ e.asid → IsBacked g t p e
  pub used : (slot : ℕ) (e : Entry) → slice_get entries slot ≡ Some e
      → 0 < e.asid → e.asid < s.next
