-- What a change of one entry makes of memory, places and the buffer.
use Rattle.std.specs.Prelude.{◌≡◌, ◌≢◌, ◌<◌, ℕ, ◌+◌, ◌/◌, ◌^◌, ◌==◌, Bool, if◌then◌else◌, List, [], ◌∷◌, ◌++◌, not, map, filter, slice_set, Option, Some, None}
use Rattle.std.specs.List.{list_any}
use Rattle.ds_tlb.specs.declared.entry.Entry.{Entry}
use Rattle.ds_tlb.specs.Entries.{find, empty_entry}
use Rattle.ds_asid.specs.Spaces.{Spaces}
use Rattle.ds_asid.specs.Inner.Spaces.{number_held}
use Rattle.ds_policy.specs.declared.grant.Entry as granted
use Rattle.ds_policy.specs.declared.grant.EntryPlace.{EntryPlace}
use Rattle.ds_policy.specs.declared.grant.Grant.{Grant}
use Rattle.ds_policy.specs.Pages.{Table, entries_of}
use Rattle.ds_policy.specs.Families.{is_child, descends}
use Rattle.ds_grants.specs.State.{GrantsState}
use Rattle.ds_grants.specs.Inner.State.{erased_grant}
use Rattle.ds_tables.specs.Places.{Places, region_of, page_of_table}
use Rattle.ds_tables.specs.Inner.Places.{closed}
use Rattle.ds_tables.specs.Inner.Tables.{with_entry}
use Rattle.ds_grants.specs.Words.{granted_word}

-- an entry of a process lies in the region
abbrev pub is_used : GrantsState → ℕ → ℕ → Bool
is_used g p r = list_any (λ (e : granted.Entry). region_of e.address == r) (entries_of g.table p)

-- memory once an entry is removed: its word is 0, or else its region has no table any more
abbrev pub memory_without : List ℕ → Places → GrantsState → ℕ → ℕ → List ℕ
memory_without memory t g p a =
    if is_used (erased_grant g p a) p (region_of a) then with_entry memory t p a 0 else memory

-- the places once an entry is removed: its region is closed where it was the last one there
abbrev pub places_without : Places → GrantsState → ℕ → ℕ → Places
places_without t g p a =
    if is_used (erased_grant g p a) p (region_of a) then t else closed t p (region_of a)

-- the slot holds what it held at the start, if there is one
abbrev pub cleared : List Entry → Option ℕ → List Entry
cleared entries None = entries
cleared entries (Some slot) = slice_set entries slot (empty_entry slot)

-- without what an address space has for a page
abbrev pub forgotten : List Entry → ℕ → ℕ → List Entry
forgotten entries vpn asid = cleared entries (find entries vpn asid)

-- without what an address space has for the page of an address, and for the page of its region's
-- table; nothing is forgotten of a process that has no address space
abbrev pub both_forgotten : List Entry → ℕ → Option ℕ → List Entry
both_forgotten entries address None = entries
both_forgotten entries address (Some asid) =
    forgotten (forgotten entries (address / 2 ^ 12) asid)
    (0xC0000 + region_of address) asid

-- the same for the entries at these places, one after the other
abbrev pub all_forgotten : List Entry → Spaces → List EntryPlace → List Entry
all_forgotten entries s [] = entries
all_forgotten entries s (place ∷ rest) =
    all_forgotten (both_forgotten entries place.address (number_held s place.process)) s rest

-- the entries that were not shared from that of process p at an address
abbrev pub without_children : ℕ → ℕ → List granted.Entry → List granted.Entry
without_children p address es = filter (λ e. not (is_child p address e)) es

-- the entries, with another grant in each for which a test holds
abbrev pub changed_where : (granted.Entry → Bool) → (granted.Entry → Grant) → List granted.Entry → List granted.Entry
changed_where test grant_of es =
    map (λ e. if test e then record e { grant = grant_of e } else e) es

-- the entries, with this grant in each that was shared from that of process p at an address
abbrev pub children_granted : ℕ → ℕ → Grant → List granted.Entry → List granted.Entry
children_granted p address g es = changed_where (is_child p address) (λ e. g) es

-- where those entries of process q stand for which a test holds
abbrev pub places_in : (granted.Entry → Bool) → ℕ → List granted.Entry → List EntryPlace
places_in test q es = map (λ e. record { process = q; address = e.address }) (filter test es)

-- the same of each process, one after the other, of which the first is q
abbrev pub all_places : (granted.Entry → Bool) → ℕ → Table → List EntryPlace
all_places test q [] = []
all_places test q (es ∷ rest) = places_in test q es ++ all_places test (q + 1) rest

-- where all stands that descends from the entry of process p at an address, process by process, and
-- then that entry itself
abbrev pub family_places : Table → ℕ → ℕ → List EntryPlace
family_places table p address =
    all_places (descends table p address) 1 table ++ record { process = p; address = address } ∷ []

-- the places once the regions of these entries of a process have no tables
abbrev pub all_closed : Places → ℕ → List granted.Entry → Places
all_closed t p [] = t
all_closed t p (e ∷ rest) = all_closed (closed t p (region_of e.address)) p rest

-- an entry of a process changed at an address, and the region's table may be new or gone: no other
-- word is another, and no other table lies elsewhere
pub record IsChangedAt (g h : GrantsState) (t u : Places) (p address : ℕ) : Type 0 where
  pub words : (q vpn : ℕ) → 0 < q → (q ≡ p → vpn ≢ address / 2 ^ 12)
      → granted_word h q vpn ≡ granted_word g q vpn
  pub tables : (q r : ℕ) → 0 < q → (q ≡ p → r ≢ region_of address)
      → page_of_table u q r ≡ page_of_table t q r
