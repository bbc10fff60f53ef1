-- What the demonstration runs.
use Rattle.std.specs.Prelude.{◌∷◌, [], Result, codes}
use Rattle.ds_pagemap.specs.Machine.{State}
use Rattle.ds_pagemap.specs.Inputs.{Refusal, inputs, inputs_by}
use Rattle.ds_station.specs.Headline.{Loaded, loaded_with}
use Rattle.ds_drive.specs.declared.demo.TheConstants.{POLICY, SOURCE}

-- its texts as a run reads them: no input, 100 ticks, and Random starts at 63
abbrev pub demo_inputs : Result State Refusal
demo_inputs = inputs POLICY.now ((codes "one.s", SOURCE.now) ∷ []) [] 100 63

-- the same as what a run begins with
abbrev pub demo_loaded : Result Loaded Refusal
demo_loaded = inputs_by loaded_with POLICY.now ((codes "one.s", SOURCE.now) ∷ []) [] 100 63
