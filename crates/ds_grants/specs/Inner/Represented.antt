-- What page tables and the buffer have of what is granted.
use Rattle.std.specs.Prelude.{◌≡◌, ◌⊎◌, ℕ, ◌<◌, ◌≤◌, true, false, nat_lt, List, ◌∷◌, length, map, is_some}
use Rattle.ds_mem.specs.Memory.{frame_of}
use Rattle.ds_tlb.specs.declared.entry.Entry.{Entry}
use Rattle.ds_policy.specs.declared.grant.Entry as granted
use Rattle.ds_policy.specs.Pages.{entries_of, entry_at}
use Rattle.ds_policy.specs.Grants.{region, count_distinct}
use Rattle.ds_grants.specs.State.{GrantsState}
use Rattle.ds_tables.specs.Places.{Places}
use Rattle.ds_asid.specs.Spaces.{Spaces}
use Rattle.ds_grants.specs.Represented.{IsRepresented}

-- what is granted is represented after a change where it was before
abbrev pub Keeps : List Entry → List ℕ → Places → Spaces → GrantsState
    → List Entry → List ℕ → Places → Spaces → GrantsState → Type 0
Keeps old_entries old_memory old_t old_s old_g entries memory t s g =
    IsRepresented old_entries old_memory old_t old_s old_g
    → IsRepresented entries memory t s g

-- only frames of page tables changed: no page, nor the vectors or the empty table
abbrev pub IsLow : List ℕ → List ℕ → Type 0
IsLow old new = (length new ≡ length old)
    × ((f : ℕ) → (f < 2) ⊎ (402 ≤ f) → frame_of new f ≡ frame_of old f)

-- only frames of pages changed
abbrev pub IsHigh : List ℕ → List ℕ → Type 0
IsHigh old new = (length new ≡ length old)
    × ((f : ℕ) → f < 402 → frame_of new f ≡ frame_of old f)

-- an entry of a process at an address lies in no fifth region
abbrev pub HasRegion : GrantsState → ℕ → ℕ → Type 0
HasRegion g p address = nat_lt 4 (count_distinct (region address
    ∷ map (λ (e : granted.Entry). region e.address) (entries_of g.table p))) ≡ false

-- an entry of a process at an address lies in no fifth region, or takes the place of one there
abbrev pub HasPlace : GrantsState → ℕ → ℕ → Type 0
HasPlace g p address =
    (HasRegion g p address) ⊎ (is_some (entry_at g.table p address) ≡ true)
