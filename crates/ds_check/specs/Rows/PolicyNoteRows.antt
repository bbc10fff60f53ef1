-- Worked notes on a policy.
use Rattle.std.specs.Prelude.{codes, refl, ◌≡◌, ℕ, false, List, [], ◌∷◌, replicate, Option, None, Some}
use Rattle.ds_policy.specs.declared.grant.Right.{Right}
use Rattle.ds_policy.specs.declared.grant.Right.TheVariants.{Nothing, Read, Write}
use Rattle.ds_policy.specs.declared.policy.PolicyPage.{PolicyPage}
use Rattle.ds_policy.specs.declared.policy.PolicyProcess.{PolicyProcess}
use Rattle.ds_policy.specs.declared.policy.PolicyRule.{PolicyRule}
use Rattle.ds_policy.specs.Value.{PolicyValue}
use Rattle.ds_check.specs.declared.notes.policy.PolicyNote.TheVariants.{StartOffFour, StartNotGranted, PartPastEnd, UnusedPage, WritableCode}
use Rattle.ds_check.specs.PolicyNotes.{policy_notes}

abbrev rule : ℕ → ℕ → Right → Option ℕ → PolicyRule
rule process address right page = record { process = process; address = address; right = right; page = page; give = false; until = None }

-- a page of code and one of data
abbrev code : PolicyPage
code = record { name = codes "code"; source = Some (record { name = codes "one.s"; part = 0 }) }

abbrev zero : ℕ → PolicyPage
zero letter = record { name = letter ∷ []; source = None }

abbrev part_1 : PolicyPage
part_1 = record { name = codes "more"; source = Some (record { name = codes "one.s"; part = 1 }) }

abbrev policy : List ℕ → List PolicyPage → List PolicyRule → PolicyValue
policy starts pages rules = record { frames = 16; rate = 0; processes = processes starts; pages = pages; rules = rules }
  where
    processes : List ℕ → List PolicyProcess
    processes [] = []
    processes (start ∷ rest) = record { start = start; line = 0 } ∷ processes rest

pub a_good_policy : policy_notes (policy (0x00400000 ∷ []) (code ∷ zero 100 ∷ []) (rule 1 0x00400000 Read (Some 0) ∷ rule 1 0x00410000 Write (Some 1) ∷ [])) (replicate 8 0 ∷ []) ≡ []
a_good_policy = refl

pub starts : policy_notes (policy (0x00400002 ∷ 0x00401000 ∷ 0x00402000 ∷ 0x00400FFC ∷ []) (code ∷ [])
    (rule 1 0x00400000 Read (Some 0) ∷ rule 3 0x00402000 Nothing None ∷ rule 4 0x00400000 Read (Some 0) ∷ [])) (replicate 8 0 ∷ [])
    ≡ StartOffFour 1 ∷ StartNotGranted 2 ∷ StartNotGranted 3 ∷ []
starts = refl

pub pages : policy_notes (policy (0x00400000 ∷ []) (code ∷ zero 100 ∷ part_1 ∷ zero 101 ∷ [])
    (rule 1 0x00400000 Write (Some 0) ∷ rule 1 0x00410000 Write (Some 3) ∷ rule 1 0x00401000 Read (Some 2) ∷ [])) (replicate 4096 0 ∷ [])
    ≡ WritableCode 0 ∷ UnusedPage 1 ∷ PartPastEnd 2 ∷ []
pages = refl

pub a_part_that_begins_with_the_last_byte : policy_notes (policy (0x00400000 ∷ []) (part_1 ∷ []) (rule 1 0x00400000 Read (Some 0) ∷ [])) (replicate 4097 0 ∷ []) ≡ []
a_part_that_begins_with_the_last_byte = refl

-- where the image is not given it is not said where it ends
pub no_image : policy_notes (policy (0x00400000 ∷ []) (part_1 ∷ []) (rule 1 0x00400000 Read (Some 0) ∷ [])) [] ≡ []
no_image = refl
