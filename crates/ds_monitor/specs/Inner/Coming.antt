-- When a boundary next has something to do.
use Rattle.std.specs.Prelude.{ℕ, ◌+◌, ◌-◌, ◌*◌, ◌/◌, ◌^◌, ◌==◌, if◌then◌else◌, min, List, [], ◌∷◌}
use Rattle.ds_policy.specs.InputFacts.{has_time, comes_at}
use Rattle.ds_policy.specs.Value.{InputValue}
use Rattle.ds_refinement.specs.Held.{Kept}

-- a time to which no run comes
abbrev pub never : ℕ
never = 2 ^ 63

-- when the first of these comes
abbrev pub first_time : {X : Type 0} → (X → ℕ) → List X → ℕ
first_time time [] = never
first_time time (x ∷ rest) = time x

-- when the first event of an input comes
abbrev pub first_event : InputValue → ℕ
first_event i = min (first_time has_time i.commands) (first_time comes_at i.characters)

-- When the first character of an input comes, or a tick before the first command does: a unit that begins before then with two ticks
-- to take, and ends after it, needs no room for what a command writes.
abbrev pub first_due : InputValue → ℕ
first_due i = min (first_time has_time i.commands - 1) (first_time comes_at i.characters)

-- when the period of a rate ends in which a time lies
abbrev pub period_end : ℕ → ℕ → ℕ
period_end rate time = if rate == 0 then never else (time / 2 ^ (rate + 2) + 1) * 2 ^ (rate + 2)

-- when something of the input is due, a period ends since the clock was ticked, or a right may end
abbrev pub next_due : Kept → ℕ
next_due k =
    min (min (first_due (record { commands = k.state.commands; characters = k.state.characters })) (period_end k.state.rate k.ticked)) k.ends
