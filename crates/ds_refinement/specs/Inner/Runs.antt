-- What a run of the station does to the machine states that it stands for.
use Rattle.std.specs.Prelude.{ℕ}
use Rattle.ds_pagemap.specs.Machine.{State}
use Rattle.ds_pagemap.specs.Run.{Reaches, ReachesInTime}
use Rattle.ds_refinement.specs.Held.{Held}
use Rattle.ds_refinement.specs.Stands.{Stands}

-- or has reached one that it stands for now
pub record RunsWithin (n : ℕ) (old new : Held) : Type 0 where
  pub runs : (m : State) → Stands old m → (t : State) × Reaches n m t × Stands new t

-- in half turns no more than there may be
pub record RunsInTime (n : ℕ) (old new : Held) : Type 0 where
  pub runs : (m : State) → Stands old m → (t : State) × ReachesInTime n m t × Stands new t
