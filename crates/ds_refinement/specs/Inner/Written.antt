-- What a unit has written into the buffer.
use Rattle.std.specs.Prelude.{◌≡◌, ◌⊎◌, ℕ, ◌+◌, ◌<◌, ◌≤◌, Contains, Some, slice_get}
use Rattle.ds_tlb.specs.declared.entry.Entry.{Entry}
use Rattle.ds_refinement.specs.Tally.{turns}
use Rattle.ds_refinement.specs.Held.{Held, Own}

-- a slot that the unit has written: by a refill, or as one of the first eight for the page of a table
abbrev pub HasWritten : Own → ℕ → Type 0
HasWritten own slot = Contains own.written slot ⊎ ((slot < 8) × (turns slot own.wired ≤ own.tables))

-- a slot has an entry of the same page and address space as before
abbrev pub HasSameKey : Held → Held → ℕ → Type 0
HasSameKey old new slot = (e : Entry) → slice_get old.core.entries slot ≡ Some e
    → (f : Entry) × (slice_get new.core.entries slot ≡ Some f) × (f.vpn ≡ e.vpn) × (f.asid ≡ e.asid)

-- between them the unit was served for tables' pages alone, and for no copy
abbrev pub HasNoCopy : Own → Own → Type 0
HasNoCopy old new = new.services + old.tables ≡ old.services + new.tables

-- a slot keeps its page and its address space, and its whole entry where no copy was made
pub record KeepsSlot (old new : Held) (slot : ℕ) : Type 0 where
  pub key : HasSameKey old new slot
  pub whole : HasNoCopy old.own new.own → slice_get new.core.entries slot ≡ slice_get old.core.entries slot

-- what the unit had written keeps its slot and goes on to count as written, and no other slot changes its page but what it has written
pub record KeepsWritten (old new : Held) : Type 0 where
  pub stays : (slot : ℕ) → HasWritten old.own slot → KeepsSlot old new slot
  pub counts : (slot : ℕ) → HasWritten old.own slot → HasWritten new.own slot
  pub others : (slot : ℕ) → HasWritten new.own slot ⊎ KeepsSlot old new slot
  -- each entry of a table's page is a service
  pub services : old.own.services + new.own.tables ≤ new.own.services + old.own.tables
