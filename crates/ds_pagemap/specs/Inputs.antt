-- What a run is asked for: its first state, or the first refusal.
use Rattle.std.specs.Prelude.{codes, ℕ, Bool, true, false, ◌&&◌, nat_le, nat_lt, bytes_eq, if◌then◌else◌, List, [], ◌∷◌, ◌++◌, Option, Some, None, Result, Ok, Err}
use Rattle.ds_word.specs.ResultBinding.{◌>>=◌}
use Rattle.ds_policy.specs.Value.{PolicyValue, InputValue}
use Rattle.ds_policy.specs.Refusal.{PolicyRefusal, bad_toml, limit, bad_rule}
use Rattle.ds_policy.specs.PolicyParts.{sources_of}
use Rattle.ds_policy.specs.PolicyText.{policy_of}
use Rattle.ds_policy.specs.InputText.{input_of}
use Rattle.ds_asm.specs.declared.fault.SourceFault.{SourceFault}
use Rattle.ds_asm.specs.Assembly.{assembled}
use Rattle.ds_pagemap.specs.Machine.{State}
use Rattle.ds_pagemap.specs.First.{first_state}

-- why there is no first state
pub data Refusal : Type 0 where
  BadToml : Refusal
  Limit : (name : List ℕ) → Refusal
  BadRule : (number : ℕ) → Refusal
  NoSource : (name : List ℕ) → Refusal
  -- a fault of the source of this name
  InSource : (name : List ℕ) (fault : SourceFault) → Refusal
  InputFault : (line : ℕ) → Refusal
  BadRandom : Refusal

-- a source's name and its text
abbrev pub Sources : Type 0
Sources = List (List ℕ × List ℕ)

-- goes on only where it holds
abbrev pub check : Bool → Refusal → Result Bool Refusal
check true refusal = Ok true
check false refusal = Err refusal

-- a policy, or its refusal as one of these
abbrev pub policy_read : Result PolicyValue PolicyRefusal → Result PolicyValue Refusal
policy_read (Ok policy) = Ok policy
policy_read (Err bad_toml) = Err BadToml
policy_read (Err (limit name)) = Err (Limit name)
policy_read (Err (bad_rule number)) = Err (BadRule number)

-- an input, or its refusal as one of these
abbrev pub input_read : Result InputValue ℕ → Result InputValue Refusal
input_read (Ok input) = Ok input
input_read (Err line) = Err (InputFault line)

-- the text of a source; of two of one name the first counts
abbrev pub text_named : Sources → List ℕ → Option (List ℕ)
text_named [] name = None
text_named (source ∷ rest) name = if bytes_eq source.0 name then Some source.1 else text_named rest name

-- an image, or its refusal as one of these
abbrev pub source_read : List ℕ → Result (List ℕ) SourceFault → Result (List ℕ) Refusal
source_read name (Ok bytes) = Ok bytes
source_read name (Err fault) = Err (InSource name fault)

-- the image of a source's text, if there is one
abbrev pub image_read : List ℕ → Option (List ℕ) → Result (List ℕ) Refusal
image_read name None = Err (NoSource name)
image_read name (Some text) = source_read name (assembled text)

-- the images done, and those of the sources of these names, in order
unfoldable pub images_from : Sources → List (List ℕ) → List (List ℕ) → Result (List (List ℕ)) Refusal
images_from sources done [] = Ok done
images_from sources done (name ∷ names) = image_read name (text_named sources name) >>= (λ bytes. images_from sources (done ++ bytes ∷ []) names)

-- What is made of a policy, the images of its sources and the events of an input, or the first refusal.
module _ {A : Type 0} (make : PolicyValue → List (List ℕ) → InputValue → A) where
  -- under a policy
  unfoldable pub inputs_under_by : PolicyValue → Sources → List ℕ → ℕ → ℕ → Result A Refusal
  inputs_under_by policy sources input n random = do
    images ← images_from sources [] (sources_of policy.pages)
    events ← input_read (input_of policy.pages input)
    few ← check (nat_le n 1000000000) (Limit (codes "n"))
    good ← check (nat_le 8 random && nat_lt random 64) BadRandom
    Ok (make policy images events)

  -- of a policy's text, sources, an input's text, a number of ticks and a start of Random
  unfoldable pub inputs_by : List ℕ → Sources → List ℕ → ℕ → ℕ → Result A Refusal
  inputs_by text sources input n random = do
    policy ← policy_read (policy_of text)
    inputs_under_by policy sources input n random

-- the first state under a policy
unfoldable pub inputs_under : PolicyValue → Sources → List ℕ → ℕ → ℕ → Result State Refusal
unfolding inputs_under_by
inputs_under policy sources input n random = inputs_under_by first_state policy sources input n random

-- the first state of a policy's text, sources, an input's text, a number of ticks and a start of Random
unfoldable pub inputs : List ℕ → Sources → List ℕ → ℕ → ℕ → Result State Refusal
unfolding inputs_by inputs_under
inputs text sources input n random = inputs_by first_state text sources input n random
