-- What a run writes, and a station shows, of a process that is alone.
use Rattle.std.specs.Prelude.{◌≡◌, ℕ, Bool, true}
use Rattle.ds_pagemap.specs.Machine.{State}
use Rattle.ds_pagemap.specs.Run.{Reaches}
use Rattle.ds_refinement.specs.Held.{Held}
use Rattle.ds_refinement.specs.Stands.{Stands}
use Rattle.ds_alone.specs.Alone.{StandsAlone}
use Rattle.ds_alone.specs.Deeds.{AsksNothing}
use Rattle.ds_alone.specs.Log.{ShowsMore}
use Rattle.ds_alone.specs.Tests.{nobody_may_give}
use Rattle.ds_alone.specs.Touched.{IsQuietAlone}

-- a station stands for a state that a run for n from m reaches, and that shows of process p, besides what m shows of it, what it does alone
pub record StandsShowing (n p : ℕ) (m : State) (h : Held) : Type 0 where
  pub state : State
  pub reached : Reaches n m state
  pub stands : Stands h state
  pub shows : ShowsMore p m state

-- from each machine state that it stood for, in which a quiet process that asks nothing is alone, and nobody may give, it
-- stands for one that shows of that process, besides what was shown, what it does alone
pub record RunsAlone (n : ℕ) (old new : Held) : Type 0 where
  pub runs : (listens : Bool) (p : ℕ) (m : State) → Stands old m → StandsAlone listens p m → nobody_may_give m ≡ true → AsksNothing listens p m → IsQuietAlone p m → StandsShowing n p m new
