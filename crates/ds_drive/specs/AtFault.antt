-- Which source, which input and which place in a policy are told of a check that is refused.
use Rattle.std.specs.Prelude.{◌≡◌, ◌≤◌, ℕ, List, Option, None, Some, Ok, IfSome, is_some, length, not, option_map, ⊤}
use Rattle.ds_asm.specs.Faults.{all_faults}
use Rattle.ds_check.specs.declared.places.Place.{Place}
use Rattle.ds_check.specs.Places.{place_at}
use Rattle.ds_policy.specs.Document.{document}
use Rattle.ds_policy.specs.PolicyText.{policy_of}
use Rattle.ds_policy.specs.Value.{PolicyValue}
use Rattle.ds_policy.specs.declared.policy.PolicyPage.{PolicyPage}
use Rattle.ds_policy_reasons.specs.Reasons.{input_reason, policy_reason}
use Rattle.ds_policy.specs.declared.events.cause.InputCause.{InputCause}
use Rattle.ds_policy.specs.declared.cause.PolicyReason.{PolicyReason}
use Rattle.ds_pagemap.specs.Inputs.{Sources, text_named}
use Rattle.ds_station.specs.declared.fault.Fault.{Fault}
use Rattle.ds_station.specs.declared.fault.Fault.TheVariants as fault
use Rattle.ds_drive.specs.declared.failure.Failure.{Failure}
use Rattle.ds_drive.specs.declared.refused.FaultyInput.{FaultyInput}
use Rattle.ds_drive.specs.declared.refused.FaultyPolicy.{FaultyPolicy}
use Rattle.ds_drive.specs.declared.refused.FaultySource.{FaultySource}
use Rattle.ds_drive.specs.declared.refused.Refused.{Refused}
use Rattle.ds_drive.specs.PolicyPlaces.{place_of_reason}

-- a failure of which nothing is told besides
abbrev pub plain : Failure → Refused
plain f = record { failure = f; source = None; input = None; reason = None; policy = None }

-- the source of this name is told with all its faults, and none only where no source has the name
abbrev pub IsSourceOf : List ℕ → Sources → Option FaultySource → Type 0
IsSourceOf name sources None = text_named sources name ≡ None
IsSourceOf name sources (Some s) = (text_named sources name ≡ Some s.text.items) × (s.faults.items ≡ all_faults s.text.items)

-- the source that the fault names is told, and none of a fault that names none
abbrev pub IsSourceAt : Fault → Sources → Option FaultySource → Type 0
IsSourceAt (fault.InSource name first) sources told = IsSourceOf name sources told
IsSourceAt f sources told = told ≡ None

-- an input is told where the fault is the input's, with the fault's line
abbrev pub IsInputAt : Fault → List ℕ → Option FaultyInput → Type 0
IsInputAt (fault.InputFault line) text None = ⊥
IsInputAt (fault.InputFault line) text (Some i) = (i.text.items ≡ text) × (i.line ≡ line)
IsInputAt f text None = ⊤
IsInputAt f text (Some i) = ⊥

-- the place that is told of a policy that is at fault
abbrev pub place_told : Option FaultyPolicy → Option Place
place_told told = option_map (λ p. p.place) told

-- where the fault is the policy's, the place that its reason names is told; exactly where the policy is no document, some place in its text; and of another fault none
abbrev pub IsPlaceAt : Fault → List ℕ → Option Place → Type 0
IsPlaceAt (fault.BadRule number) policy place = place ≡ place_of_reason policy (policy_reason policy)
IsPlaceAt (fault.Limit key) policy place = place ≡ place_of_reason policy (policy_reason policy)
IsPlaceAt fault.BadToml policy place = (is_some place ≡ not (is_some (document policy))) × IfSome place (λ p. (n : ℕ) × (n ≤ length policy) × (p ≡ place_at policy n))
IsPlaceAt f policy place = place ≡ None

-- where the fault is the policy's its reason is told, and nowhere else
abbrev pub IsReasonAt : Fault → List ℕ → Option PolicyReason → Type 0
IsReasonAt fault.BadToml policy why = why ≡ policy_reason policy
IsReasonAt (fault.BadRule number) policy why = why ≡ policy_reason policy
IsReasonAt (fault.Limit key) policy why = why ≡ policy_reason policy
IsReasonAt f policy why = why ≡ None

-- what is wrong with the line of an input, which the pages of a policy decide
abbrev pub cause_of : List PolicyPage → List ℕ → Option InputCause
cause_of pages input = option_map (λ why. why.cause) (input_reason pages input)

-- where an input is told, what is wrong with the line is told with it
abbrev pub IsCauseAt : List PolicyPage → Option FaultyInput → Type 0
IsCauseAt pages None = ⊤
IsCauseAt pages (Some i) = i.cause ≡ cause_of pages i.text.items

-- what is told besides of a fault of these texts is this
pub record IsAtFault (f : Fault) (r : Refused) (policy : List ℕ) (sources : Sources) (input : List ℕ) : Type 0 where
  pub source_at : IsSourceAt f sources r.source
  pub input_at : IsInputAt f input r.input
  pub policy_at : IfSome r.policy (λ p. p.text.items ≡ policy)
  pub place_at : IsPlaceAt f policy (place_told r.policy)
  pub reason_at : IsReasonAt f policy r.reason
  pub cause_at : (value : PolicyValue) → policy_of policy ≡ Ok value → IsCauseAt value.pages r.input
