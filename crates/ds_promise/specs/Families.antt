-- Families of shares: what came of an entry, what is out of reach, and what an end hands on.
use Rattle.std.specs.Prelude.{◌≡◌, ◌≢◌, ◌⊎◌, ◌<◌, ℕ, true, false, List, [], ◌∷◌, Option, Some, None}
use Rattle.ds_isa.specs.declared.instr.Kind.{Kind}
use Rattle.ds_isa.specs.declared.instr.Size.{Size}
use Rattle.ds_policy.specs.declared.access.Verdict.TheVariants.{Allowed}
use Rattle.ds_policy.specs.declared.grant.Grant.{Grant}
use Rattle.ds_policy.specs.declared.grant.Entry.{Entry}
use Rattle.ds_policy.specs.declared.grant.EntryPlace.{EntryPlace}
use Rattle.ds_policy.specs.Pages.{Table, entries_of, found, entry_at, decide, page_address}
use Rattle.ds_policy.specs.Families.{parent_of, is_place, comes_from}

-- process q's entry at b came of process p's at a: it was shared from that one, or from one that
-- came of it, however long the way
pub record CameOf (table : Table) (p a q b : ℕ) : Type 0 where
  pub grant : Grant
  pub held : entry_at table q b ≡ Some grant
  pub steps : ℕ
  pub way : comes_from table p a steps grant.parent ≡ true

-- it is process p's entry at a, or it came of that one
abbrev pub IsOrCameOf : Table → ℕ → ℕ → ℕ → ℕ → Type 0
IsOrCameOf table p a q b = ((q ≡ p) × (b ≡ a)) ⊎ CameOf table p a q b

-- process q may do nothing in the page at b
abbrev pub IsOutOfReach : Table → ℕ → ℕ → Type 0
IsOutOfReach table q b = (kind : Kind) (size : Size) (address page offset : ℕ) → page_address address ≡ b → decide table q kind size address ≢ Allowed page offset

-- no two of the entries are at one address
abbrev pub HaveOwnAddresses : List Entry → Type 0
HaveOwnAddresses [] = Unit {0}
HaveOwnAddresses (e ∷ rest) = (found rest e.address ≡ None) × HaveOwnAddresses rest

-- no process has two entries at one address
abbrev pub AllHaveOwnAddresses : Table → Type 0
AllHaveOwnAddresses table = (p : ℕ) → HaveOwnAddresses (entries_of table p)

-- the way up from a parent, over entries of process p alone, leads to one that isn't process p's, or
-- to none
pub data IsNearest (table : Table) (p : ℕ) : Option EntryPlace → Option EntryPlace → Type 0 where
  none_above : IsNearest table p None None
  stays : (place : EntryPlace) → place.process ≢ p → IsNearest table p (Some place) (Some place)
  goes : (place : EntryPlace) (g : Grant) (up : Option EntryPlace) → place.process ≡ p → entry_at table p place.address ≡ Some g → IsNearest table p g.parent up → IsNearest table p (Some place) up

-- afterwards process p has no entry at a, and the others are as they were, but that what was shared
-- from it has its parent
pub record PassesOn (table after : Table) (p a : ℕ) : Type 0 where
  pub gone : entry_at after p a ≡ None
  pub shared : (q b : ℕ) (g : Grant) → 0 < q → (q ≢ p) ⊎ (b ≢ a) → entry_at table q b ≡ Some g → is_place p a g.parent ≡ true → entry_at after q b ≡ Some (record g { parent = parent_of (entry_at table p a) })
  pub others : (q b : ℕ) (g : Grant) → 0 < q → (q ≢ p) ⊎ (b ≢ a) → entry_at table q b ≡ Some g → is_place p a g.parent ≡ false → entry_at after q b ≡ Some g
  pub new : (q b : ℕ) → entry_at table q b ≡ None → entry_at after q b ≡ None

-- process q's entry at b is this grant, but for what it was shared from
pub record IsSameButParent (table : Table) (q b : ℕ) (g : Grant) : Type 0 where
  pub parent : Option EntryPlace
  pub is : entry_at table q b ≡ Some (record g { parent = parent })

-- afterwards process p has no entries, the others have those that they had, and what was shared from
-- process p's has the nearest above that stays
pub record HandsOn (table after : Table) (p : ℕ) : Type 0 where
  pub gone : (b : ℕ) → entry_at after p b ≡ None
  pub stay : (q b : ℕ) (g : Grant) → 0 < q → q ≢ p → entry_at table q b ≡ Some g → IsSameButParent after q b g
  pub new : (q b : ℕ) → 0 < q → q ≢ p → entry_at table q b ≡ None → entry_at after q b ≡ None
  pub nearest : (q b : ℕ) (g : Grant) (up : Option EntryPlace) → 0 < q → q ≢ p → entry_at table q b ≡ Some g → IsNearest table p g.parent up → entry_at after q b ≡ Some (record g { parent = up })
