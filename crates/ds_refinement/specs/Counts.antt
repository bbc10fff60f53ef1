-- What is counted of a unit; and its course: from the processor, the counts, which pages may be written, and the pages that the unit asks for.
use Rattle.std.specs.Prelude.{◌≡◌, ℕ, ◌+◌, ◌-◌, ◌/◌, ◌<◌, ◌≤◌, ◌==◌, if◌then◌else◌, Bool, true, false, List, [], ◌∷◌, length}
use Rattle.ds_word.specs.Word.{bits}
use Rattle.ds_cp0.specs.System.{asid_of, is_user}
use Rattle.ds_core.specs.Core.{CoreState}
use Rattle.ds_grants.specs.Buffer.{lo_of}
use Rattle.ds_refinement.specs.Held.{Kept, Own}
use Rattle.ds_refinement.specs.Told.{code_in}
use Rattle.ds_refinement.specs.Course.{UnitPages, UnitPlace, Begun, InItsSlot, AtWord, AtDoubleMiss, AtModification, AtService, Work, Course}
use Rattle.ds_refinement.specs.CourseSteps.{later, next_wired}

-- what is counted of a unit, and the slot for the next entry of a page table's page: the fields of `Work` of the same names
pub record Counts : Type 0 where
  pub spent : ℕ
  pub written : List ℕ
  pub since : ℕ
  pub wired : ℕ
  pub tables : ℕ
  pub services : ℕ

-- an instruction more
abbrev pub one_more : Counts → Counts
one_more n = record n { spent = n.spent + 1; since = later n.written n.since }

-- an instruction more, which wrote a slot
abbrev pub one_written : ℕ → Counts → Counts
one_written slot n = record n { spent = n.spent + 1; since = n.since + 1; written = slot ∷ n.written }

-- an entry of a page table's page more
abbrev pub one_tabled : Counts → Counts
one_tabled n = record n { wired = next_wired n.wired; tables = n.tables + 1; services = n.services + 1 }

-- a copy more
abbrev pub one_copied : Counts → Counts
one_copied n = record n { services = n.services + 1 }

-- a service more after which the unit goes on, by whether the exception came from user mode: a copy, or an entry of a table's page
abbrev pub one_served : Bool → Counts → Counts
one_served true n = one_copied n
one_served false n = one_tabled n

-- a word of the handler more, by whether it is the seventh, which writes the slot that Random names
abbrev pub one_word : Bool → ℕ → Counts → Counts
one_word true random n = one_written random n
one_word false random n = one_more n

-- where the processor is, by user mode, its slot, the general vector, the mode that was left, the code of a modification, and pc
abbrev pub place_by : Bool → Bool → Bool → Bool → Bool → ℕ → UnitPlace
place_by user slot general left modified pc =
    if user then (if slot then InItsSlot else Begun)
    else if general then (if left then (if modified then AtModification else AtService) else AtDoubleMiss)
    else AtWord ((pc - 0x80000000) / 4)

abbrev pub unit_place : CoreState → UnitPlace
unit_place c = place_by (is_user c.system) c.slot (c.pc == 0x80000080) (bits c.system.status 3 1 == 1) (code_in c.system == 1) c.pc

-- what the course depends on
abbrev pub work_of : CoreState → Counts → (ℕ → Bool) → UnitPages → Work
work_of c n dirty pages = record {
  pages = pages;
  dirty = dirty;
  entries = c.entries;
  asid = asid_of c.system;
  random = c.random;
  wired = n.wired;
  spent = n.spent;
  written = n.written;
  since = n.since;
  tables = n.tables;
  services = n.services;
}

-- the course
abbrev pub course_of : CoreState → Counts → (ℕ → Bool) → UnitPages → Course
course_of c n dirty pages = record { place = unit_place c; page = bits c.system.entry_hi 12 20; work = work_of c n dirty pages }

-- nothing is counted yet
abbrev pub fresh_counts : ℕ → Counts
fresh_counts wired = record { spent = 0; written = []; since = 0; wired = wired; tables = 0; services = 0 }

-- what a station counts of its unit
abbrev pub counts_of : Own → Counts
counts_of own = record { spent = own.spent; written = own.written; since = own.since; wired = own.wired; tables = own.tables; services = own.services }

-- no unit has begun
abbrev pub HasNone : Own → Type 0
HasNone own = counts_of own ≡ fresh_counts own.wired

-- whether a process may write a page: EntryLo of the page has D
abbrev pub may_write : Kept → ℕ → ℕ → Bool
may_write k p page = bits (lo_of k.grants k.tables p page) 10 1 == 1

-- the buffer has 64 slots, Random names one from 8 on, and the turn is of one of the first eight
pub record HasRanges (c : CoreState) (n : Counts) : Type 0 where
  pub size : length c.entries ≡ 64
  pub low : 8 ≤ c.random
  pub high : c.random < 64
  pub turn : n.wired < 8
