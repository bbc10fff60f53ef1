-- What is counted of a unit; and its course: from the processor, the counts, which pages may be written, and the pages that the unit asks for.
use Rattle.std.specs.Prelude.{◌≡◌, ℕ, ◌+◌, ◌<◌, ◌≤◌, Bool, List, [], ◌∷◌, length}
use Rattle.ds_core.specs.declared.event.Event.{Event}
use Rattle.ds_core.specs.declared.event.Event.TheVariants.{Retired, Branched, Raised}
use Rattle.ds_core.specs.Core.{CoreState}
use Rattle.ds_refinement.specs.Held.{Own}
use Rattle.ds_refinement.specs.Course.{UnitPages}
use Rattle.ds_refinement.specs.Tally.{IsTallied}
use Rattle.ds_refinement.specs.Counts.{Counts, one_more, course_of, fresh_counts, counts_of, HasRanges}

-- the steps of Random since the first refill, after a whole one more: nine, or three where this is the first
abbrev pub since_refill : List ℕ → ℕ → ℕ
since_refill [] since = since + 3
since_refill (slot ∷ more) since = since + 9

-- a whole refill more: nine instructions, of which the seventh wrote a slot
abbrev pub one_refilled : ℕ → Counts → Counts
one_refilled slot n = record n { spent = n.spent + 9; written = slot ∷ n.written; since = since_refill n.written n.since }

-- its marks with these counts
abbrev pub with_counts : Own → Counts → Own
with_counts own n = record { failed = own.failed; spent = n.spent; written = n.written; since = n.since; wired = n.wired; tables = n.tables; services = n.services }

-- nothing is counted of the unit but instructions
abbrev pub IsFresh : Own → Type 0
IsFresh own = counts_of own ≡ record (fresh_counts own.wired) { spent = own.spent }

-- the counts of a unit are few
pub record IsFew (own : Own) : Type 0 where
  -- instructions, and refills among them
  pub spent : own.spent ≤ 61
  pub written : length own.written ≤ 4
  -- Random comes to no slot a second time
  pub since : own.since < 56
  -- entries of tables' pages, and whose turn it is among the first eight slots
  pub tables : own.tables ≤ 4
  pub wired : own.wired < 8
  pub services : own.services ≤ 8

-- after an instruction of a unit with these counts: where it retires the unit has ended
abbrev pub CountedAfter : Event → CoreState → Counts → (ℕ → Bool) → UnitPages → Type 0
CountedAfter Retired c n dirty pages = HasRanges c (fresh_counts n.wired)
CountedAfter Branched c n dirty pages = IsTallied (course_of c (one_more n) dirty pages)
CountedAfter (Raised code) c n dirty pages = IsTallied (course_of c (one_more n) dirty pages)
