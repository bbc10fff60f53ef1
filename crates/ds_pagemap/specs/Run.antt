-- Runs.
use Rattle.std.specs.Prelude.{None, is_some, ◌||◌, ◌≡◌, ℕ, ◌+◌, ◌-◌, ◌*◌, ◌≤◌, Bool, false, not, ◌&&◌, nat_lt, if◌then◌else◌, List, [], ◌∷◌, length}
use Rattle.std.specs.List.{list_all}
use Rattle.ds_pagemap.specs.Machine.{State, has_ended, touched}
use Rattle.ds_pagemap.specs.Unit.{unit}
use Rattle.ds_pagemap.specs.Boundary.{boundary}

-- every process has ended
abbrev pub is_over : State → Bool
is_over m = list_all (λ q. has_ended q.standing) m.processes

-- Half a turn: the boundary that is owed, or else a unit; before it the process that runs may be touched.
unfoldable pub half_turn : Bool → State → State
half_turn touch m = if is_some m.owed then boundary (touched touch m) else unit (touched touch m)

-- a run for n ticks goes on
abbrev pub goes_on : ℕ → State → Bool
goes_on n m = is_some m.owed || (nat_lt m.time n && not (is_over m))

-- half a turn, if the run goes on
abbrev pub go : ℕ → Bool → State → State
go n touch m = if goes_on n m then half_turn touch m else m

-- the state of a run for n ticks after these choices, the newest first
unfoldable pub after : ℕ → List Bool → State → State
after n [] m = m
after n (touch ∷ earlier) m = go n touch (after n earlier m)

-- A run for n ticks from m may reach t. The process that runs next may be touched already.
pub record Reaches (n : ℕ) (m t : State) : Type 0 where
  pub choices : List Bool
  pub early : Bool
  pub comes_to : t ≡ touched early (after n choices m)

-- in half turns no more than there may be: two of them a tick, a unit and the boundary after it, and
-- first the boundary that is owed
pub record ReachesInTime (n : ℕ) (m t : State) : Type 0 where
  pub reached : Reaches n m t
  pub few : length reached.choices ≤ 2 * (n - m.time) + (if is_some m.owed then 1 else 0)

-- and is over there
pub record Ends (n : ℕ) (m t : State) : Type 0 where
  pub reached : Reaches n m t
  pub over : goes_on n t ≡ false

-- and no boundary is owed there: a prefix of a run, in whole turns
pub record IsPrefix (n : ℕ) (m t : State) : Type 0 where
  pub reached : Reaches n m t
  pub whole : t.owed ≡ None
