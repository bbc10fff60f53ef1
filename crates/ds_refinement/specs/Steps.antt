-- What a step of the station does to the machine states that it stands for.
use Rattle.std.specs.Prelude.{◌≡◌, ◌≢◌, ℕ, ◌+◌, ◌-◌, ◌*◌, ◌<◌, ◌≤◌, ◌⊎◌, Bool, true, false, not, if◌then◌else◌, [], None, is_some, IsSome}
use Rattle.ds_word.specs.Word.{truth}
use Rattle.ds_cp0.specs.System.{is_user}
use Rattle.ds_pagemap.specs.Machine.{State, touched}
use Rattle.ds_pagemap.specs.Run.{half_turn, is_over}
use Rattle.ds_refinement.specs.declared.step.Step.{Step}
use Rattle.ds_refinement.specs.declared.step.Step.TheVariants.{Inside, Unit, Boundary, Over}
use Rattle.ds_refinement.specs.Held.{Held}
use Rattle.ds_refinement.specs.Units.{has_left_user, is_served}
use Rattle.ds_refinement.specs.Handling.{touches}
use Rattle.ds_refinement.specs.Counts.{Counts, counts_of, fresh_counts, one_more, one_served, one_word}
use Rattle.ds_refinement.specs.Stands.{Stands}

-- half a turn, with a touch before and after or without
abbrev pub HalfTo : State → State → Type 0
HalfTo m t = (before : Bool) × (afterwards : Bool) × (t ≡ touched afterwards (half_turn before m))

-- What a step of this kind may make of a machine state: a part of a unit and its end come only where somebody is ready, and an idle turn only while somebody has not ended.
abbrev pub StepTo : Step → State → State → Type 0
StepTo Inside m t = (m.ready ≢ []) × (touch : Bool) × (t ≡ touched touch m)
StepTo Unit m t = (m.owed ≡ None) × (m.ready ≢ []) × HalfTo m t
StepTo Boundary m t = ((m.owed ≢ None) × HalfTo m t)
    ⊎ ((m.owed ≡ None) × (m.ready ≡ []) × (is_over m ≡ false) × HalfTo (half_turn false m) t)
StepTo Over m t = (m.owed ≡ None) × (is_over m ≡ true) × (t ≡ m)

-- there is a state that follows by such a step, and the station stands for that
abbrev pub Comes : Step → Held → State → Type 0
Comes step new m = (t : State) × StepTo step m t × Stands new t

-- for each machine state that the station stood for, it stands for one that follows by such a step
pub record Follows (step : Step) (old new : Held) : Type 0 where
  pub follows : (m : State) → Stands old m → Comes step new m

-- the ticks of a unit, by whether its last instruction stood in a slot
abbrev pub ticks_of : Bool → ℕ
ticks_of slot = if slot then 2 else 1

-- how many steps a unit may still take
abbrev pub steps_left : Held → ℕ
steps_left h = 2 * (64 - h.own.spent) + truth (is_served h.core)

-- what is counted after a step inside a unit: a service, or else an instruction or a word
abbrev pub counts_after : Held → Counts
counts_after h =
    if is_served h.core then one_served (has_left_user h.core) (counts_of h.own)
    else if is_user h.core.system then one_more (counts_of h.own)
    else one_word (touches h.core) h.core.random (counts_of h.own)

-- how the counts and the clock move in a step
abbrev pub Moves : Step → Held → Held → Type 0
Moves Inside old new = (old.kept.state.owed ≡ None) × (new.kept.state.owed ≡ None) × (new.kept.state.time ≡ old.kept.state.time)
    × (new.own.spent ≡ old.own.spent + truth (not (is_served old.core))) × (new.own.spent ≤ 64) × (steps_left new < steps_left old) × (new.own.failed ≡ old.own.failed)
    × (counts_of new.own ≡ counts_after old)
Moves Unit old new = (old.kept.state.owed ≡ None) × IsSome new.kept.state.owed × (new.kept.state.time ≡ old.kept.state.time + ticks_of old.core.slot)
    × (new.own.spent ≡ 0) × (new.own.failed ≡ old.own.failed) × (counts_of new.own ≡ fresh_counts old.own.wired)
Moves Boundary old new = (new.kept.state.owed ≡ None) × (new.own.spent ≡ 0)
    × (new.kept.state.time ≡ old.kept.state.time + truth (not (is_some old.kept.state.owed))) × (new.own.failed ≡ old.own.failed)
    × (counts_of new.own ≡ fresh_counts old.own.wired)
Moves Over old new = new ≡ old
