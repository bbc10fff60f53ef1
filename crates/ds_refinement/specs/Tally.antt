-- How far a unit is, what of it is in the buffer, and how few its counts are.
use Rattle.std.specs.Prelude.{◌≡◌, ◌⊎◌, ℕ, ◌+◌, ◌-◌, ◌<◌, ◌≤◌, nat_lt, if◌then◌else◌, Bool, true, false, List, [], ◌∷◌, length, slice_get, Some}
use Rattle.ds_word.specs.Word.{truth}
use Rattle.ds_tlb.specs.declared.entry.Entry.{Entry}
use Rattle.ds_refinement.specs.KeptEntries.{steps_since, IsKept}
use Rattle.ds_refinement.specs.Cost.{Met, cost}
use Rattle.ds_refinement.specs.Course.{Ask, Fetch, Slot, Access, asked, UnitPlace, Begun, InItsSlot, AtWord, AtDoubleMiss, AtModification, AtService, Work, Course}
use Rattle.ds_refinement.specs.CourseSteps.{table_page}

-- whether the page of an ask was refilled
abbrev pub has_page : Met → Ask → Bool
has_page m Fetch = m.fetch
has_page m Slot = m.slot
has_page m Access = m.access

-- whether its page table's page was entered
abbrev pub has_table : Met → Ask → Bool
has_table m Fetch = m.fetch_table
has_table m Slot = m.slot_table
has_table m Access = m.access_table

-- the refills, the double misses, and the copies of what was met
abbrev pub refills : Met → ℕ
refills m = truth m.early + truth m.fetch + truth m.slot + truth m.access

abbrev pub doubles : Met → ℕ
doubles m = truth m.early + truth m.fetch_table + truth m.slot_table + truth m.access_table

abbrev pub copies : Met → ℕ
copies m = truth m.early + truth m.copied

-- the instructions of the program that a miss sends to waste
abbrev pub wasted : Ask → ℕ
wasted Fetch = 1
wasted Slot = 2
wasted Access = 2

-- how many turns ago it was a slot's turn among the first eight; 8 where it is its turn
abbrev pub turns : ℕ → ℕ → ℕ
turns slot wired = if nat_lt slot wired then wired - slot else wired + 8 - slot

-- the entry of a page table's page is in one of the last n of these slots
pub record IsTableKept (entries : List Entry) (wired n page asid : ℕ) : Type 0 where
  pub slot : ℕ
  pub entry : Entry
  pub at : slice_get entries slot ≡ Some entry
  pub vpn : entry.vpn ≡ page
  pub space : entry.asid ≡ asid
  pub high : slot < 8
  pub few : turns slot wired ≤ n

-- Random was at a slot within the last n steps
pub record Stood (slot random n : ℕ) : Type 0 where
  pub low : 8 ≤ slot
  pub high : slot < 64
  pub since : 1 ≤ steps_since slot random
  pub few : steps_since slot random ≤ n

-- at each of them
abbrev pub AllStood : List ℕ → ℕ → ℕ → Type 0
AllStood [] random n = Unit {0}
AllStood (slot ∷ more) random n = Stood slot random n × AllStood more random n

-- a first refill comes after one instruction of the program and six of the handler
abbrev pub IsSince : List ℕ → ℕ → ℕ → Type 0
IsSince [] since spent = since ≡ 0
IsSince (slot ∷ more) since spent = since + 7 ≤ spent

-- what was met is in the buffer, and no more is counted than was met
pub record Tally (w : Work) (met : Met) : Type 0 where
  pub pages : (ask : Ask) → has_page met ask ≡ true → IsKept w.entries w.random (w.spent - 7) (asked w.pages ask) w.asid
  pub tables : (ask : Ask) → has_table met ask ≡ true → IsTableKept w.entries w.wired w.tables (table_page (asked w.pages ask)) w.asid
  pub copied : met.copied ≡ true → w.dirty w.pages.access ≡ true
  pub stood : AllStood w.written w.random (w.spent - 7)
  pub since : IsSince w.written w.since w.spent
  -- whatever was met has touched the process
  pub touched : 0 < cost met → w.pages.touched ≡ w.pages.access
  pub refilled : length w.written ≤ refills met
  pub doubled : w.tables ≤ doubles met
  pub served : w.services ≤ doubles met + copies met
  pub size : length w.entries ≡ 64
  pub low : 8 ≤ w.random
  pub high : w.random < 64
  pub turn : w.wired < 8

-- before one of the handler's first seven words, for an ask that was not refilled
pub record IsRefilling (word page : ℕ) (w : Work) (met : Met) : Type 0 where
  pub ask : Ask
  pub unmet : has_page met ask ≡ false
  pub page_is : page ≡ asked w.pages ask
  pub begun : word + 1 ≤ w.spent
  pub few : w.spent ≤ cost met + wasted ask + word

-- in the monitor for a page table's page that was not entered
pub record IsTabling (page : ℕ) (w : Work) (met : Met) : Type 0 where
  pub ask : Ask
  pub unmet : has_page met ask ≡ false
  pub no_table : has_table met ask ≡ false
  pub page_is : page ≡ table_page (asked w.pages ask)
  pub begun : 4 ≤ w.spent
  pub few : w.spent ≤ cost met + wasted ask + 3

-- in the monitor for the data's page, which was not copied
pub record IsModified (page : ℕ) (w : Work) (met : Met) : Type 0 where
  pub unmet : met.copied ≡ false
  pub page_is : page ≡ w.pages.access
  pub few : w.spent ≤ cost met + 2

-- how many instructions there are at most, by where the processor is
abbrev pub IsSpentAt : UnitPlace → ℕ → Work → Met → Type 0
IsSpentAt Begun page w met = w.spent ≤ cost met
IsSpentAt InItsSlot page w met = w.spent ≤ cost met + 1
IsSpentAt (AtWord word) page w met = ((word ≤ 6) × IsRefilling word page w met) ⊎ ((7 ≤ word) × (word ≤ 8) × (w.spent + 9 ≤ cost met + word))
IsSpentAt AtDoubleMiss page w met = IsTabling page w met
IsSpentAt AtModification page w met = IsModified page w met
IsSpentAt AtService page w met = w.spent ≤ cost met + 2

-- a unit under way is tallied: its invariant
pub record IsTallied (c : Course) : Type 0 where
  pub met : Met
  pub tally : Tally c.work met
  pub at : IsSpentAt c.place c.page c.work met
