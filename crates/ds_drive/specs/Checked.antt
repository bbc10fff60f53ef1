-- What a check of a policy explains, and what is left where it refuses.
use Rattle.std.specs.Prelude.{◌≡◌, ◌⊎◌, ◌==◌, ◌&&◌, ◌++◌, ℕ, Bool, true, false, not, List, [], Option, None, Some, Ok, All, codes, length, map, ⊤}
use Rattle.std.specs.Borrow.{Bor}
use Rattle.std.specs.Io.KnownBytes.{Appends, Keeps}
use Rattle.ds_policy.specs.PolicyText.{policy_of}
use Rattle.ds_policy.specs.PolicyParts.{sources_of}
use Rattle.ds_policy.specs.InputText.{input_of}
use Rattle.ds_policy.specs.Value.{PolicyValue, InputValue}
use Rattle.ds_text.specs.Sent.{AppendsPart}
use Rattle.ds_pagemap.specs.Machine.{State}
use Rattle.ds_pagemap.specs.Inputs.{Sources, inputs}
use Rattle.ds_station.specs.Headline.{EndsBy}
use Rattle.ds_station.specs.declared.fault.Fault.{Fault}
use Rattle.ds_station.specs.declared.fault.Fault.TheVariants as fault
use Rattle.ds_ties.specs.Texts.{ties_text}
use Rattle.ds_drive.specs.declared.failure.Failure.{Failure}
use Rattle.ds_drive.specs.declared.failure.Failure.TheVariants as failure
use Rattle.ds_drive.specs.declared.refused.Refused.{Refused}
use Rattle.ds_drive.specs.AtFault.{IsAtFault, plain}
use Rattle.ds_drive.specs.Failures.{LeavesSource}
use Rattle.ds_drive.specs.Inside.{outside_of}
use Rattle.ds_drive.specs.Noted.{notes_text, starts_of}
use Rattle.ds_check.specs.Explained.{explained}
use Rattle.ds_words.specs.declared.words.CheckRequest.{CheckRequest}

-- the input is what its file holds, or nothing where none is named
abbrev pub IsInput : (List ℕ → List ℕ → Type 0) → Option (Bor (List ℕ)) → List ℕ → Type 0
IsInput holds None input = input ≡ []
IsInput holds (Some name) input = holds name.now input

-- a policy, its sources and an input, each as its file holds it: they are good together, as a run
-- for no ticks finds them
pub record AreGood (holds : List ℕ → List ℕ → Type 0) (request : CheckRequest) (value : PolicyValue) (sources : Sources) (input : List ℕ) (events : InputValue) : Type 0 where
  pub policy : List ℕ
  pub policy_held : holds request.policy.now policy
  pub input_held : IsInput holds request.input input
  pub sources_held : All (λ s. holds s.0 s.1) sources
  pub sources_named : map (λ s. s.0) sources ≡ sources_of value.pages
  pub sources_inside : outside_of request.inside (sources_of value.pages) ≡ None
  pub policy_read : policy_of policy ≡ Ok value
  pub input_read : input_of value.pages input ≡ Ok events
  pub first : State
  pub begins : inputs policy sources input 0 63 ≡ Ok first

-- where the processes start, and below it what ties each of them to the others
abbrev pub with_ties : List ℕ → List ℕ → List ℕ
with_ties starts ties = codes "starts\n" ++ (starts ++ (codes "ties\n" ++ ties))

-- what they mean: what is explained, where the processes start, and what ties each of them to the others
abbrev pub meaning_text : PolicyValue → Sources → List ℕ → InputValue → List ℕ
meaning_text value sources input events = explained value input events ++ with_ties (starts_of value sources) (ties_text value events)

-- of what they mean, and of the notes on them, this holds
pub record OfGood (holds : List ℕ → List ℕ → Type 0) (request : CheckRequest) (P : List ℕ → List ℕ → Type 0) : Type 0 where
  pub value : PolicyValue
  pub sources : Sources
  pub input : List ℕ
  pub events : InputValue
  pub good : AreGood holds request value sources input events
  pub so : P (meaning_text value sources input events) (notes_text value sources events)

-- these notes are taken for faults: the words say so, and there is one
abbrev pub are_faults : CheckRequest → List ℕ → Bool
are_faults request notes = request.notes_as_faults && not (length notes == 0)

-- what is written: what they mean, and the notes below it
abbrev pub with_notes : List ℕ → List ℕ → List ℕ
with_notes text notes = text ++ (codes "notes\n" ++ notes)

-- it is written, with the notes, which are no faults
abbrev pub ExplainsCheck : (List ℕ → List ℕ → Type 0) → CheckRequest → Option (List ℕ) → Option (List ℕ) → Type 0
ExplainsCheck holds request old new = OfGood holds request (λ text notes. (are_faults request notes ≡ false) × Appends old new (with_notes text notes))

-- a front of it is written
abbrev pub CutsExplanation : (List ℕ → List ℕ → Type 0) → CheckRequest → Option (List ℕ) → Option (List ℕ) → Type 0
CutsExplanation holds request old new = OfGood holds request (λ text notes. (are_faults request notes ≡ false) × AppendsPart old new (with_notes text notes))

-- these are the notes, and they are taken for faults
abbrev pub HasNotes : (List ℕ → List ℕ → Type 0) → CheckRequest → List ℕ → Type 0
HasNotes holds request told = OfGood holds request (λ text notes. (are_faults request notes ≡ true) × (told ≡ notes))

-- of a policy, its sources and an input, each as its file holds it, this holds
pub record OfChecked (holds : List ℕ → List ℕ → Type 0) (request : CheckRequest) (P : List ℕ → Sources → List ℕ → Type 0) : Type 0 where
  pub policy : List ℕ
  pub sources : Sources
  pub input : List ℕ
  pub policy_held : holds request.policy.now policy
  pub input_held : IsInput holds request.input input
  pub sources_held : All (λ s. holds s.0 s.1) sources
  pub sources_named : (value : PolicyValue) → policy_of policy ≡ Ok value → map (λ s. s.0) sources ≡ sources_of value.pages
  pub sources_inside : (value : PolicyValue) → policy_of policy ≡ Ok value → outside_of request.inside (sources_of value.pages) ≡ None
  pub so : P policy sources input

-- this name is that of the policy, or of the input where one is named
abbrev pub IsNamed : CheckRequest → List ℕ → Type 0
IsNamed request name = (name ≡ request.policy.now) ⊎ ((input : Bor (List ℕ)) × (request.input ≡ Some input) × (name ≡ input.now))

-- not all was read: a file is lacking, a source is outside the folder in which it has to be, or memory ran out
abbrev pub IsNotRead : Failure → (List ℕ → List ℕ → Type 0) → (List ℕ → Type 0) → CheckRequest → Type 0
IsNotRead (failure.UnreadableFile name) holds lacks request = IsNamed request name.now × lacks name.now
IsNotRead (failure.UnreadableSource name) holds lacks request = LeavesSource request.inside holds lacks request.policy.now name
IsNotRead (failure.NoProcess process) holds lacks request = ⊥
IsNotRead (failure.Fault fault.Memory) holds lacks request = ⊤
IsNotRead (failure.Fault f) holds lacks request = ⊥

-- the fault by which a run for no ticks ends, and what is at fault then
pub record RunRefuses (holds : List ℕ → List ℕ → Type 0) (request : CheckRequest) (r : Refused) : Type 0 where
  pub fault : Fault
  pub is : r.failure ≡ failure.Fault fault
  pub so : OfChecked holds request (λ policy sources input. EndsBy fault (inputs policy sources input 0 63) None None 0 × IsAtFault fault r policy sources input)

-- why a check is refused before anything is explained: not all was read, and nothing is told besides; or a run for no ticks is refused
abbrev pub RefusesCheck : Refused → (List ℕ → List ℕ → Type 0) → (List ℕ → Type 0) → CheckRequest → Type 0
RefusesCheck r holds lacks request = ((r ≡ plain r.failure) × IsNotRead r.failure holds lacks request) ⊎ RunRefuses holds request r

-- and what it leaves: nothing, or a front of what is explained where the writer failed
abbrev pub ChecksBy : Refused → (List ℕ → List ℕ → Type 0) → (List ℕ → Type 0) → CheckRequest → Option (List ℕ) → Option (List ℕ) → Type 0
ChecksBy r holds lacks request old new =
    (RefusesCheck r holds lacks request × Keeps old new)
    ⊎ ((r ≡ plain (failure.Fault fault.WriteFault)) × CutsExplanation holds request old new)
