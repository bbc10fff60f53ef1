-- What a unit costs, and where Random stood: each row is a theorem about the definitions alone.
use Rattle.std.specs.Prelude.{◌≡◌, refl, true, false}
use Rattle.ds_refinement.specs.KeptEntries.{steps_since}
use Rattle.ds_refinement.specs.Cost.{Met, cost}

-- a unit that has met nothing
abbrev nothing : Met
nothing = record { early = false; fetch = false; fetch_table = false; slot = false; slot_table = false; access = false; access_table = false; copied = false }

pub a_unit_that_meets_all_takes_59 : cost (record { early = true; fetch = true; fetch_table = true; slot = true; slot_table = true; access = true; access_table = true; copied = true }) ≡ 59
a_unit_that_meets_all_takes_59 = refl

pub a_unit_that_meets_nothing_takes_none : cost nothing ≡ 0
a_unit_that_meets_nothing_takes_none = refl

pub a_double_miss_of_a_slot_takes_16 : cost (record nothing { slot = true; slot_table = true }) ≡ 16
a_double_miss_of_a_slot_takes_16 = refl

pub random_came_to_8_from_9 : steps_since 9 8 ≡ 1
random_came_to_8_from_9 = refl

pub random_came_to_63_from_8 : steps_since 8 63 ≡ 1
random_came_to_63_from_8 = refl

pub a_slot_is_met_again_after_56_steps : steps_since 10 11 ≡ 55
a_slot_is_met_again_after_56_steps = refl
