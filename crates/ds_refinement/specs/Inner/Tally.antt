-- How far a unit is, what of it is in the buffer, and how few its counts are.
use Rattle.std.specs.Prelude.{◌⊎◌, ℕ, ◌+◌, ◌-◌, ◌*◌, ◌<◌, ◌≤◌, Contains, Bool, true, false, length}
use Rattle.ds_word.specs.Word.{truth}
use Rattle.ds_refinement.specs.Course.{UnitPlace, Begun, InItsSlot, AtWord, AtDoubleMiss, AtModification, AtService, Work, Course}
use Rattle.ds_refinement.specs.Tally.{turns}

-- the counts are few
pub record IsShort (w : Work) : Type 0 where
  pub spent : w.spent ≤ 61
  pub written : length w.written ≤ 4
  pub since : w.since ≤ 54
  pub tables : w.tables ≤ 4
  pub services : w.services ≤ 6

-- a slot that the unit has written, by a refill or for a page table's page
abbrev pub WasWritten : Work → ℕ → Type 0
WasWritten w slot = Contains w.written slot ⊎ ((slot < 8) × (turns slot w.wired ≤ w.tables))

-- whether the monitor is to serve
abbrev pub is_serving : UnitPlace → Bool
is_serving Begun = false
is_serving InItsSlot = false
is_serving (AtWord word) = false
is_serving AtDoubleMiss = true
is_serving AtModification = true
is_serving AtService = true

-- how many steps a unit may still take
abbrev pub steps_ahead : Course → ℕ
steps_ahead c = 2 * (64 - c.work.spent) + truth (is_serving c.place)
