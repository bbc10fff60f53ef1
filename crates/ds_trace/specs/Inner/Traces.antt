-- The trace of a run, and what is written of it.
use Rattle.std.specs.Prelude.{◌≡◌, ℕ, List, Option}
use Rattle.ds_pagemap.specs.Machine.{State}
use Rattle.ds_words.specs.declared.view.View.{View}
use Rattle.ds_trace.specs.Counts.{Counted}
use Rattle.ds_trace.specs.Traces.{counts_along, WritesTold}

-- The same, and these are the counts of its way.
pub record WritesToldBy (v : View) (old new : Option (List ℕ)) (n : ℕ) (first : State) (Tells : State → List ℕ → Type 0) (k : Counted) : Type 0 where
  pub told : WritesTold v old new n first Tells
  pub counts : k ≡ counts_along v n told.ends.reached.choices first
