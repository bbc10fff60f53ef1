-- What a run begins with, and where a run of it comes.
use Rattle.std.specs.Prelude.{◌≡◌, ℕ, false, List, Result}
use Rattle.ds_policy.specs.Value.{PolicyValue}
use Rattle.ds_pagemap.specs.Inputs.{Refusal, Sources, inputs_under, inputs_under_by}
use Rattle.ds_pagemap.specs.Machine.{State}
use Rattle.ds_refinement.specs.Held.{Held}
use Rattle.ds_refinement.specs.Real.{RealPath}
use Rattle.ds_refinement.specs.Runs.{RunsTo, held_goes_on}
use Rattle.ds_refinement.specs.Stands.{Stands}
use Rattle.ds_station.specs.Headline.{Begins, BeginsWith, Loaded, loaded_with}

-- a policy, sources by their names and texts, the text of an input, and where Random begins
pub record RunInputs : Type 0 where
  pub policy : PolicyValue
  pub sources : Sources
  pub input : List ℕ
  pub random : ℕ

-- the first state of a run of these for n, or why there is none
abbrev pub first_state_of : RunInputs → ℕ → Result State Refusal
first_state_of i n = inputs_under i.policy i.sources i.input n i.random

-- what such a run begins with
abbrev pub loaded_of : RunInputs → ℕ → Result Loaded Refusal
loaded_of i n = inputs_under_by loaded_with i.policy i.sources i.input n i.random

-- a station is at the beginning of a run of these for n
pub record IsBeginning (i : RunInputs) (n : ℕ) (h : Held) : Type 0 where
  pub stands : Begins (first_state_of i n) (Stands h)
  pub loads : Begins (loaded_of i n) (BeginsWith i.random h)

-- a run of these to a time ends there, by real steps
pub record IsAt (i : RunInputs) (n time : ℕ) (h : Held) : Type 0 where
  pub start : Held
  pub begins : IsBeginning i n start
  pub runs : RunsTo time start h
  pub path : RealPath start h
  pub over : held_goes_on time h ≡ false
