-- What a check finds in a policy and its sources: where the processes start, and the notes.
use Rattle.std.specs.Prelude.{ℕ, ◌++◌, List, [], None, Result, Ok, Err, map}
use Rattle.std.specs.List.{flat_map}
use Rattle.ds_asm.specs.declared.fault.SourceFault.{SourceFault}
use Rattle.ds_asm.specs.Assembly.{assembled}
use Rattle.ds_check.specs.Starts.{starts_text}
use Rattle.ds_listing.specs.Listing.{rows_of}
use Rattle.ds_check.specs.CodeNotes.{notes_after}
use Rattle.ds_check.specs.InputNotes.{crowds}
use Rattle.ds_check.specs.PolicyNotes.{policy_notes}
use Rattle.ds_check.specs.NoteTexts.{code_notes_text, crowds_text, policy_notes_text}
use Rattle.ds_pagemap.specs.Inputs.{Sources}
use Rattle.ds_policy.specs.Value.{InputValue, PolicyValue}

-- the bytes of an image; none where there are faults in its place
abbrev pub image_in : Result (List ℕ) SourceFault → List ℕ
image_in (Ok image) = image
image_in (Err fault) = []

-- the image of a source
abbrev pub image_of : List ℕ → List ℕ
image_of text = image_in (assembled text)

-- the images of sources, in order
abbrev pub images_of : Sources → List (List ℕ)
images_of sources = map (λ s. image_of s.1) sources

-- where the processes of a policy start
abbrev pub starts_of : PolicyValue → Sources → List ℕ
starts_of policy sources = starts_text (record { sources = sources; images = images_of sources }) policy

-- the notes on a source of this name and this text
abbrev pub source_notes : List ℕ → List ℕ → List ℕ
source_notes name text = code_notes_text name (notes_after None (rows_of text (image_of text)))

-- the notes on a policy and its sources: those on the policy, and then those on each source
abbrev pub guest_notes : PolicyValue → Sources → List ℕ
guest_notes policy sources =
    policy_notes_text policy.pages (policy_notes policy (images_of sources)) ++ flat_map (λ s. source_notes s.0 s.1) sources

-- the notes on an input: the characters that a boundary can't take
abbrev pub input_notes : InputValue → List ℕ
input_notes input = crowds_text (crowds input.characters)

-- the notes on a policy, its sources and an input
abbrev pub notes_text : PolicyValue → Sources → InputValue → List ℕ
notes_text policy sources input = guest_notes policy sources ++ input_notes input
