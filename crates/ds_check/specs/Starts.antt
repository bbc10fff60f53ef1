-- Where the processes of a policy start, as a reader is told it.
use Rattle.std.specs.Prelude.{codes, decimal, ℕ, ◌+◌, ◌*◌, ◌%◌, bytes_eq, List, [], ◌∷◌, ◌++◌, length, position, slice_get, Option, None, Some, option_and_then, option_map}
use Rattle.ds_listing.specs.Listing.{rows_of}
use Rattle.ds_text.specs.Digits.{hex8}
use Rattle.ds_policy.specs.declared.grant.Grant.{Grant}
use Rattle.ds_policy.specs.declared.policy.PolicyPage.{PolicyPage}
use Rattle.ds_policy.specs.declared.policy.PolicyProcess.{PolicyProcess}
use Rattle.ds_policy.specs.declared.policy.Source.{Source}
use Rattle.ds_policy.specs.FirstTable.{table_of}
use Rattle.ds_policy.specs.Pages.{Table, entries_of, entry_at, page_address}
use Rattle.ds_policy.specs.Value.{PolicyValue}
use Rattle.ds_check.specs.Spots.{SourceSpot, spot_after}

-- sources by their names and texts, and the image of each, in the same order
pub record Assembled : Type 0 where
  pub sources : List (List ℕ × List ℕ)
  pub images : List (List ℕ)

-- the source whose part a page has, if it has one
abbrev pub page_source : Option PolicyPage → Option Source
page_source None = None
page_source (Some page) = page.source

-- the source whose part lies where this is granted
abbrev pub granted_source : List PolicyPage → Option Grant → Option Source
granted_source pages None = None
granted_source pages (Some grant) = option_and_then (λ n. page_source (slice_get pages n)) grant.page

-- where a byte stands in a text with an image, where both are there
abbrev pub spot_between : ℕ → Option (List ℕ) → Option (List ℕ) → Option SourceSpot
spot_between byte (Some text) (Some image) = spot_after byte None (rows_of text image)
spot_between byte text image = None

-- where a byte of the image of the source of this name stands
abbrev pub spot_in : Assembled → List ℕ → ℕ → Option SourceSpot
spot_in a name byte =
    option_and_then (λ i. spot_between byte (option_map (λ s. s.1) (slice_get a.sources i)) (slice_get a.images i)) (position (λ s. bytes_eq s.0 name) a.sources)

-- a label, if there is one
abbrev pub label_text : Option (List ℕ) → List ℕ
label_text None = []
label_text (Some name) = codes ", label " ++ name

-- a place of the source of this name, if there is one
abbrev pub place_text : List ℕ → Option SourceSpot → List ℕ
place_text name None = []
place_text name (Some place) = codes ", line " ++ (decimal place.line ++ (codes " of " ++ (name ++ label_text place.label)))

-- the place of a byte of a part
abbrev pub part_place_text : Assembled → ℕ → Option Source → List ℕ
part_place_text a byte None = []
part_place_text a byte (Some s) = place_text s.name (spot_in a s.name (4096 * s.part + byte))

-- process n, and where it starts
abbrev pub start_head_text : ℕ → ℕ → List ℕ
start_head_text n start = codes "process " ++ (decimal n ++ (codes ": start " ++ hex8 start))

-- how many entries it has
abbrev pub entries_count_text : ℕ → List ℕ
entries_count_text entries = codes ", entries " ++ (decimal entries ++ codes "\n")

-- where process n starts, the place there, and how many entries it has
abbrev pub start_text : Assembled → List PolicyPage → Table → ℕ → ℕ → List ℕ
start_text a pages table n start =
    start_head_text n start
    ++ (part_place_text a (start % 4096) (granted_source pages (entry_at table n (page_address start))) ++ entries_count_text (length (entries_of table n)))

-- processes, of which the first is process n
abbrev pub start_texts : Assembled → List PolicyPage → Table → ℕ → List PolicyProcess → List ℕ
start_texts a pages table n [] = []
start_texts a pages table n (p ∷ ps) = start_text a pages table n p.start ++ start_texts a pages table (n + 1) ps

-- where the processes of a policy start
abbrev pub starts_text : Assembled → PolicyValue → List ℕ
starts_text a p = start_texts a p.pages (table_of p) 1 p.processes
