-- What a unit may do next.
use Rattle.std.specs.Prelude.{◌≡◌, ◌≢◌, ◌⊎◌, ℕ, zero, suc, ◌+◌, ◌<◌, ◌≤◌, Bool, true, false, List, [], ◌∷◌, length, slice_set, None}
use Rattle.ds_tlb.specs.declared.entry.Entry.{Entry}
use Rattle.ds_tlb.specs.Entries.{find, random_after}
use Rattle.ds_grants.specs.Copies.{HasKeys}
use Rattle.ds_refinement.specs.Course.{Ask, Fetch, asked, UnitPlace, Begun, InItsSlot, AtWord, AtDoubleMiss, AtModification, AtService, Work, Course}
use Rattle.ds_refinement.specs.Inner.Course.{after_touch}
use Rattle.ds_refinement.specs.CourseSteps.{table_page, later, next_wired}

-- after one more instruction
abbrev pub counted : Work → Work
counted w = record w { spent = w.spent + 1; random = random_after 64 8 w.random; since = later w.written w.since }

-- after the handler's seventh word, which writes an entry at Random
abbrev pub wrote : Entry → Work → Work
wrote e w = record w {
  spent = w.spent + 1;
  random = random_after 64 8 w.random;
  since = w.since + 1;
  entries = slice_set w.entries w.random e;
  written = w.random ∷ w.written;
  pages = after_touch w.pages;
}

-- after the service of a double miss
abbrev pub tabled : Entry → Work → Work
tabled e w = record w {
  entries = slice_set w.entries w.wired e;
  wired = next_wired w.wired;
  tables = w.tables + 1;
  services = w.services + 1;
  pages = after_touch w.pages;
}

-- after the service of a copy that was put off
abbrev pub copied : List Entry → (ℕ → Bool) → Work → Work
copied entries dirty w = record w { entries = entries; dirty = dirty; services = w.services + 1; pages = after_touch w.pages }

-- before an instruction of the program
abbrev pub IsUsers : UnitPlace → Type 0
IsUsers place = (place ≡ Begun) ⊎ (place ≡ InItsSlot)

-- what a unit does next, where it goes on
pub data Next (c d : Course) : Type 0 where
  -- a branch
  Branches : c.place ≡ Begun → d ≡ record { place = InItsSlot; page = c.page; work = counted c.work } → Next c d
  -- no entry is found of a page that is asked for
  Misses : (ask : Ask) → c.place ≡ Begun → find c.work.entries (asked c.work.pages ask) c.work.asid ≡ None
      → d ≡ record { place = AtWord 0; page = asked c.work.pages ask; work = counted c.work } → Next c d
  MissesInSlot : (ask : Ask) → c.place ≡ InItsSlot → ask ≢ Fetch → find c.work.entries (asked c.work.pages ask) c.work.asid ≡ None
      → d ≡ record { place = AtWord 0; page = asked c.work.pages ask; work = counted c.work } → Next c d
  -- a store to a page that may not be written
  Modifies : IsUsers c.place → c.work.dirty c.work.pages.access ≡ false → d ≡ record { place = AtModification; page = c.work.pages.access; work = counted c.work } → Next c d
  -- any other exception
  Traps : (page : ℕ) → IsUsers c.place → d ≡ record { place = AtService; page = page; work = counted c.work } → Next c d
  -- a word of the handler but the seventh and the last
  Passes : (word : ℕ) → c.place ≡ AtWord word → word < 8 → ◌≢◌ {A = ℕ} word 6 → d ≡ record { place = AtWord (word + 1); page = c.page; work = counted c.work } → Next c d
  -- the third word finds no entry of the page table's page
  MissesTable : c.place ≡ AtWord 2 → find c.work.entries (table_page c.page) c.work.asid ≡ None
      → d ≡ record { place = AtDoubleMiss; page = table_page c.page; work = counted c.work } → Next c d
  -- the seventh
  Writes : (e : Entry) → c.place ≡ AtWord 6 → e.vpn ≡ c.page → e.asid ≡ c.work.asid → d ≡ record { place = AtWord 7; page = c.page; work = wrote e c.work } → Next c d
  -- the last
  Returns : c.place ≡ AtWord 8 → d ≡ record { place = Begun; page = c.page; work = counted c.work } → Next c d
  -- the services after which a unit goes on
  Tables : (e : Entry) → c.place ≡ AtDoubleMiss → e.vpn ≡ c.page → e.asid ≡ c.work.asid → d ≡ record { place = Begun; page = c.page; work = tabled e c.work } → Next c d
  Copies : (entries : List Entry) (dirty : ℕ → Bool) → c.place ≡ AtModification → dirty c.page ≡ true
      → HasKeys c.work.entries entries → length entries ≡ length c.work.entries
      → d ≡ record { place = Begun; page = c.page; work = copied entries dirty c.work } → Next c d

-- d comes n steps after c
abbrev pub After : ℕ → Course → Course → Type 0
After zero c d = d ≡ c
After (suc n) c d = (e : Course) × After n c e × Next e d

-- a unit begins
pub record BeginsUnit (c : Course) : Type 0 where
  pub place : c.place ≡ Begun
  pub size : length c.work.entries ≡ 64
  pub low : 8 ≤ c.work.random
  pub high : c.work.random < 64
  pub turn : c.work.wired < 8
  pub spent : c.work.spent ≡ 0
  pub written : c.work.written ≡ []
  pub since : c.work.since ≡ 0
  pub tables : c.work.tables ≡ 0
  pub services : c.work.services ≡ 0
