-- Which source, which input and which place in a policy are told of a check that is refused.
use Rattle.std.specs.Prelude.{◌≡◌, ℕ, List, Option, map, ⊤}
use Rattle.ds_policy.specs.declared.policy.PolicyPage.{PolicyPage}
use Rattle.ds_policy.specs.declared.events.cause.InputCause.{InputCause}
use Rattle.ds_pagemap.specs.Inputs.{Sources}
use Rattle.ds_station.specs.declared.fault.Fault.{Fault}
use Rattle.ds_station.specs.declared.fault.Fault.TheVariants as fault
use Rattle.ds_drive.specs.declared.run.SourceText.{SourceText}
use Rattle.ds_drive.specs.AtFault.{cause_of}

-- each source's name and text
abbrev pub texts_seen : List SourceText → Sources
texts_seen texts = map (λ s. (s.name, s.text.items)) texts

-- this is what is wrong with the line, where the fault is the input's
abbrev pub IsCauseOf : Fault → List PolicyPage → List ℕ → Option InputCause → Type 0
IsCauseOf (fault.InputFault line) pages input cause = cause ≡ cause_of pages input
IsCauseOf f pages input cause = ⊤
