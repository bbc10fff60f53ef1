-- What is due at a boundary.
use Rattle.std.specs.Prelude.{◌≡◌, ℕ, List, [], false, not, filter, take, drop, nat_le}
use Rattle.std.specs.List.{prefix_len}
use Rattle.std.specs.List.Sorted.{IsNonDecreasingBy}
use Rattle.ds_policy.specs.InputFacts.{has_time, comes_at}
use Rattle.ds_policy.specs.Ends.{has_some_expired}
use Rattle.ds_policy.specs.declared.command.Character.{Character}
use Rattle.ds_pagemap.specs.declared.turn.Turn.{Turn}
use Rattle.ds_pagemap.specs.Machine.{State}
use Rattle.ds_pagemap.specs.Boundary.{wakes, has_passed}
use Rattle.ds_pagemap.specs.Laws.{due}

-- the characters that the boundary at a state's time receives
abbrev pub come : State → List Character
come m = filter (λ c. nat_le c.time m.time) m.characters

-- nobody waits whose queue has a character
abbrev pub NobodyWakes : State → Type 0
NobodyWakes m = (p : ℕ) → wakes m p ≡ false

-- the boundary after this turn has nothing to do
pub record HasNothingToDo (turn : Turn) (m : State) : Type 0 where
  pub commands : due m ≡ []
  -- no right has ended
  pub ends : has_some_expired m.time m.memory.table ≡ false
  pub characters : come m ≡ []
  pub asleep : NobodyWakes m
  pub period : has_passed m.rate turn.began m.time ≡ false

-- how many events are due at a time, counted from the front
abbrev pub due_count : {X : Type 0} → (X → ℕ) → ℕ → List X → ℕ
due_count time now xs = prefix_len (λ x. nat_le (time x) now) xs

-- at a time the first k are due, and the others come later
pub record SplitsAt {X : Type 0} (time : X → ℕ) (now : ℕ) (xs : List X) (k : ℕ) : Type 0 where
  pub due : filter (λ x. nat_le (time x) now) xs ≡ take k xs
  pub rest : filter (λ x. not (nat_le (time x) now)) xs ≡ drop k xs

-- what is still to come is in order
pub record IsInOrder (m : State) : Type 0 where
  pub commands : IsNonDecreasingBy has_time m.commands
  pub characters : IsNonDecreasingBy comes_at m.characters
