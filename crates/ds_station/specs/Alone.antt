-- What a run writes, and a station shows, of a process that is alone.
use Rattle.std.specs.Prelude.{◌≡◌, ℕ, Bool, true, List, Option, Result, Ok}
use Rattle.std.specs.Io.KnownBytes.{Appends}
use Rattle.ds_pagemap.specs.Inputs.{Refusal}
use Rattle.ds_pagemap.specs.Machine.{State}
use Rattle.ds_pagemap.specs.Text.{state_text}
use Rattle.ds_alone.specs.Deeds.{AsksNothing}
use Rattle.ds_alone.specs.Log.{ShowsAlone}
use Rattle.ds_alone.specs.Tests.{is_alone, nobody_may_give}
use Rattle.ds_alone.specs.Touched.{IsQuietAlone}

-- a state's text is written, which shows of process p what it does alone
pub record WritesAlone (old new : Option (List ℕ)) (p : ℕ) (first : State) : Type 0 where
  pub last : State
  pub shows : ShowsAlone p first last
  pub written : Appends old new (state_text last)

-- so it is of each process of a first state that was read which is alone there, asks nothing and is quiet, where nobody may give
abbrev pub WritesEachAlone : Option (List ℕ) → Option (List ℕ) → Result State Refusal → Type 0
WritesEachAlone old new read =
    (listens : Bool) (p : ℕ) (first : State) → read ≡ Ok first → is_alone listens p first ≡ true → nobody_may_give first ≡ true → AsksNothing listens p first → IsQuietAlone p first
    → WritesAlone old new p first
