-- What is promised of a run that came to its end, or was left with too much, and of its trace.
use Rattle.std.specs.Prelude.{ℕ, List, Option, Result}
use Rattle.ds_policy.specs.Value.{PolicyValue}
use Rattle.ds_pagemap.specs.Inputs.{Refusal, Sources, inputs_under_by}
use Rattle.ds_pagemap.specs.Machine.{State}
use Rattle.ds_station.specs.Headline.{Loaded, loaded_with}
use Rattle.ds_words.specs.declared.words.Request.{Request}
use Rattle.ds_words.specs.declared.words.RunRequest.{RunRequest}
use Rattle.ds_drive.specs.declared.outcome.Outcome.{Outcome}
use Rattle.ds_drive.specs.Ran.{writing, HasEnded}

-- and what it begins with
abbrev pub begun_by : PolicyValue → Sources → List ℕ → Request → Result Loaded Refusal
begun_by policy sources input request = inputs_under_by loaded_with policy sources input request.most_time request.random

-- so after some bytes
abbrev pub IsEnded : RunRequest → Outcome → Option (List ℕ) → Option (List ℕ) → Result State Refusal → Result Loaded Refusal → Type 0
IsEnded request o old new read begun = (between : Option (List ℕ)) × HasEnded request o (writing old between new) read begun
