-- What a run of the station does to the machine states that it stands for.
use Rattle.std.specs.Prelude.{ℕ, Bool, ◌||◌, ◌&&◌, nat_lt, not, is_some}
use Rattle.ds_pagemap.specs.Machine.{State}
use Rattle.ds_pagemap.specs.Run.{Ends, is_over}
use Rattle.ds_refinement.specs.Held.{Held}
use Rattle.ds_refinement.specs.Stands.{Stands}

-- from each machine state that the station stood for, a run for n ends in one it stands for now
pub record RunsTo (n : ℕ) (old new : Held) : Type 0 where
  pub runs : (m : State) → Stands old m → (t : State) × Ends n m t × Stands new t

-- a run for n ticks goes on
abbrev pub held_goes_on : ℕ → Held → Bool
held_goes_on n h = is_some h.kept.state.owed || (nat_lt h.kept.state.time n && not (is_over h.kept.state))
