-- The permission table, as a reader is told it.
use Rattle.std.specs.Prelude.{codes, decimal, ℕ, ◌+◌, Bool, true, false, List, [], ◌∷◌, ◌++◌, Option, None, Some}
use Rattle.std.specs.List.{flat_map, slice_get}
use Rattle.ds_policy.specs.declared.grant.Entry.{Entry}
use Rattle.ds_policy.specs.declared.grant.Right.{Right}
use Rattle.ds_policy.specs.declared.grant.Right.TheVariants.{Nothing, Read, Write}
use Rattle.ds_policy.specs.declared.policy.PolicyPage.{PolicyPage}
use Rattle.ds_policy.specs.declared.policy.Source.{Source}
use Rattle.ds_policy.specs.Pages.{Table}
use Rattle.ds_policy.specs.FirstTable.{table_of}
use Rattle.ds_policy.specs.Value.{PolicyValue}
use Rattle.ds_policy.specs.Words.{right_word}
use Rattle.ds_text.specs.Digits.{hex8}

-- what ends the column of rights
abbrev pub blanks_after : Right → List ℕ
blanks_after Nothing = codes "  "
blanks_after Read = codes "  "
blanks_after Write = codes " "

-- a right, in its column
unfoldable pub right_text : Right → List ℕ
right_text right = codes " " ++ right_word right ++ blanks_after right

-- a part of a source
abbrev pub part_text : Source → List ℕ
part_text s = codes ", part " ++ decimal s.part ++ codes " of " ++ s.name ++ codes ", "

-- where a page's bytes come from
abbrev pub source_text : Option Source → List ℕ
source_text None = codes ", zero, "
source_text (Some s) = part_text s

-- a page by its name, and where its bytes come from
abbrev pub page_text : PolicyPage → List ℕ
page_text p = p.name ++ source_text p.source

-- a page, where there is one
abbrev pub found_text : Option PolicyPage → List ℕ
found_text None = []
found_text (Some p) = page_text p

-- what an entry is over: the page of this number, or nothing
abbrev pub granted_text : List PolicyPage → Option ℕ → List ℕ
granted_text pages None = []
granted_text pages (Some n) = found_text (slice_get pages n)

-- whether the process may give it on; the end of the line
abbrev pub give_text : Bool → List ℕ
give_text true = codes ", give (take and revoke reach what is shared on)\n"
give_text false = codes "\n"

-- the time at which the right ends, if it does
abbrev pub until_text : Option ℕ → List ℕ
until_text None = []
until_text (Some time) = codes ", until " ++ decimal time

-- the line of an entry: address, right, page, rule, until, give
abbrev pub entry_text : List PolicyPage → Entry → List ℕ
entry_text pages e =
    codes "  " ++ hex8 e.address ++ right_text e.grant.right ++ granted_text pages e.grant.page
    ++ codes "rule " ++ decimal e.grant.rule ++ until_text e.grant.until ++ give_text e.grant.give

-- process n and its entries
abbrev pub process_text : List PolicyPage → ℕ → List Entry → List ℕ
process_text pages n es = codes "process " ++ decimal n ++ codes "\n" ++ flat_map (entry_text pages) es

-- processes, of which the first is process n
abbrev pub processes_text : List PolicyPage → ℕ → Table → List ℕ
processes_text pages n [] = []
processes_text pages n (es ∷ rest) = process_text pages n es ++ processes_text pages (n + 1) rest

-- the permission table that a policy begins with
abbrev pub table_text : PolicyValue → List ℕ
table_text p = processes_text p.pages 1 (table_of p)
