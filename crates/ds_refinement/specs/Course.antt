-- A unit as it goes on: where it is, which pages it asks for, what the buffer has, and what is counted.
use Rattle.std.specs.Prelude.{ℕ, Bool, List}
use Rattle.ds_tlb.specs.declared.entry.Entry.{Entry}

-- what a unit asks for: its instruction, the one in its slot, its data
pub data Ask : Type 0 where
  Fetch : Ask
  Slot : Ask
  Access : Ask

-- the pages of these, and the page of its data once the process is touched
pub record UnitPages : Type 0 where
  pub fetch : ℕ
  pub slot : ℕ
  pub access : ℕ
  pub touched : ℕ

-- the page that is asked for
abbrev pub asked : UnitPages → Ask → ℕ
asked pages Fetch = pages.fetch
asked pages Slot = pages.slot
asked pages Access = pages.access

-- where the processor is: before the unit's first instruction, before the one in its slot, before a word of the refill handler, or in the
-- monitor after a double miss, after a store to a page that may not be written, after any other exception
pub data UnitPlace : Type 0 where
  Begun : UnitPlace
  InItsSlot : UnitPlace
  AtWord : (word : ℕ) → UnitPlace
  AtDoubleMiss : UnitPlace
  AtModification : UnitPlace
  AtService : UnitPlace

-- what of the machine the course of a unit depends on, and the unit's counts
pub record Work : Type 0 where
  pub pages : UnitPages
  -- whether a page may be written
  pub dirty : ℕ → Bool
  pub entries : List Entry
  pub asid : ℕ
  pub random : ℕ
  -- the slot, from 0 to 7, of the next entry of a page table's page
  pub wired : ℕ
  -- instructions
  pub spent : ℕ
  -- the slots that its refills have written, the newest first
  pub written : List ℕ
  -- steps of Random since the first of these
  pub since : ℕ
  -- entries of page tables' pages
  pub tables : ℕ
  pub services : ℕ

-- a unit under way; the page is that of EntryHi
pub record Course : Type 0 where
  pub place : UnitPlace
  pub page : ℕ
  pub work : Work
