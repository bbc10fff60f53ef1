-- What is worth a look in a policy and the images of its sources.
use Rattle.std.specs.Prelude.{ℕ, ◌+◌, ◌*◌, ◌%◌, ◌==◌, ◌&&◌, nat_le, Bool, false, not, bytes_eq, if◌then◌else◌, List, [], ◌∷◌, ◌++◌, length, position, slice_get, Option, None, Some, is_some, option_and_then}
use Rattle.std.specs.List.{list_any}
use Rattle.ds_policy.specs.declared.policy.PolicyProcess.{PolicyProcess}
use Rattle.ds_policy.specs.declared.policy.PolicyPage.{PolicyPage}
use Rattle.ds_policy.specs.declared.policy.PolicyRule.{PolicyRule}
use Rattle.ds_policy.specs.declared.policy.Source.{Source}
use Rattle.ds_policy.specs.FirstTable.{table_of}
use Rattle.ds_policy.specs.Grants.{has_right, is_write}
use Rattle.ds_policy.specs.Pages.{Table, names, page_address, entry_at}
use Rattle.ds_policy.specs.PolicyParts.{sources_of}
use Rattle.ds_policy.specs.Value.{PolicyValue}
use Rattle.ds_check.specs.declared.notes.policy.PolicyNote.{PolicyNote}
use Rattle.ds_check.specs.declared.notes.policy.PolicyNote.TheVariants.{StartOffFour, StartNotGranted, PartPastEnd, UnusedPage, WritableCode}

-- the note, where it holds
abbrev pub noted : Bool → PolicyNote → List PolicyNote
noted b note = if b then note ∷ [] else []

-- the notes on a process that starts there, by the permission table
abbrev pub process_notes : Table → ℕ → ℕ → List PolicyNote
process_notes table n start =
    noted (not (start % 4 == 0)) (StartOffFour n)
    ++ noted (not (has_right (entry_at table n (page_address start)))) (StartNotGranted n)

-- those on processes, of which the first is process n
abbrev pub processes_notes : Table → ℕ → List PolicyProcess → List PolicyNote
processes_notes table n [] = []
processes_notes table n (p ∷ ps) = process_notes table n p.start ++ processes_notes table (n + 1) ps

-- the rule is about this page
abbrev pub names_page : ℕ → PolicyRule → Bool
names_page page r = names page r.page

-- the rule lets a process write this page
abbrev pub gives_write : ℕ → PolicyRule → Bool
gives_write page r = names page r.page && is_write r.right

-- the image of a source, of images in the order of these names
abbrev pub image_by_name : List (List ℕ) → List (List ℕ) → List ℕ → Option (List ℕ)
image_by_name names images name = option_and_then (λ i. slice_get images i) (position (λ n. bytes_eq n name) names)

-- the part begins where its image has no bytes
abbrev pub is_past_end : Option (List ℕ) → ℕ → Bool
is_past_end None part = false
is_past_end (Some image) part = nat_le (length image) (4096 * part)

-- the part of a page begins where the image of its source has no bytes
abbrev pub source_is_past_end : List (List ℕ) → List (List ℕ) → Option Source → Bool
source_is_past_end names images None = false
source_is_past_end names images (Some s) = is_past_end (image_by_name names images s.name) s.part

-- the notes on a page
abbrev pub page_notes : PolicyValue → List (List ℕ) → ℕ → PolicyPage → List PolicyNote
page_notes p images n page =
    noted (source_is_past_end (sources_of p.pages) images page.source) (PartPastEnd n)
    ++ (noted (not (list_any (names_page n) p.rules)) (UnusedPage n)
    ++ noted (is_some page.source && list_any (gives_write n) p.rules) (WritableCode n))

-- those on pages, of which the first is page n
abbrev pub pages_notes : PolicyValue → List (List ℕ) → ℕ → List PolicyPage → List PolicyNote
pages_notes p images n [] = []
pages_notes p images n (page ∷ pages) = page_notes p images n page ++ pages_notes p images (n + 1) pages

-- the notes on a policy with the images of its sources
abbrev pub policy_notes : PolicyValue → List (List ℕ) → List PolicyNote
policy_notes p images = processes_notes (table_of p) 1 p.processes ++ pages_notes p images 0 p.pages
