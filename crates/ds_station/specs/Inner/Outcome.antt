-- What a run came to: the first process that has not ended, and the station of a run whose text is written.
use Rattle.std.specs.Prelude.{ℕ, List, Option}
use Rattle.std.specs.Io.KnownBytes.{Appends}
use Rattle.ds_pagemap.specs.Machine.{State}
use Rattle.ds_pagemap.specs.Run.{Ends}
use Rattle.ds_pagemap.specs.Text.{state_text}
use Rattle.ds_refinement.specs.Held.{Held}
use Rattle.ds_refinement.specs.Stands.{Stands}

-- a run for n from the first state has ended in a state that the station stands for, and its text is written
pub record WritesBy (h : Held) (old new : Option (List ℕ)) (n : ℕ) (first : State) : Type 0 where
  pub last : State
  pub ends : Ends n first last
  pub stands : Stands h last
  pub written : Appends old new (state_text last)
