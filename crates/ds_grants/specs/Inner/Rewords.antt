-- The words of one page written anew in the rows of all processes, and what the buffer has of them.
use Rattle.std.specs.Prelude.{ℕ, ◌+◌, ◌*◌, ◌/◌, ◌^◌, ◌&&◌, true, not, nat_lt, if◌then◌else◌, List, [], ◌∷◌, slice_get, slice_set, Option, Some, None}
use Rattle.ds_word.specs.Word.{bit}
use Rattle.ds_tlb.specs.declared.entry.Entry.{Entry}
use Rattle.ds_tlb.specs.Entries.{find}
use Rattle.ds_tlb.specs.Words.{entry_of}
use Rattle.ds_policy.specs.declared.grant.Entry as granted
use Rattle.ds_policy.specs.declared.grant.Right.{Right}
use Rattle.ds_policy.specs.Pages.{Table, names}
use Rattle.ds_policy.specs.Grants.{is_write, is_some_right}
use Rattle.ds_asid.specs.Spaces.{Spaces}
use Rattle.ds_asid.specs.Inner.Spaces.{number_held}
use Rattle.ds_tables.specs.Places.{Places, region_of, page_of_table}
use Rattle.ds_tables.specs.Inner.Tables.{with_entry_word}
use Rattle.ds_grants.specs.declared.layout.Place.{Place}

-- EntryLo of a page that lies there, for a right
abbrev pub word_at : Place → Right → ℕ
word_at place right =
    if is_some_right right then (place.frame + 402) * 2 ^ 12
    + bit 10 (is_write right && not place.shared) + bit 9 true
    else 0

-- memory with another word of a process for a page, where its region has a table
abbrev pub with_word : List ℕ → Places → ℕ → ℕ → ℕ → List ℕ
with_word memory t p address w =
    if nat_lt 1 (page_of_table t p (region_of address)) then with_entry_word memory t p address w
    else memory

-- an entry of the same page and address space with another EntryLo
abbrev pub with_lo : Entry → ℕ → Entry
with_lo e w = record (entry_of 0 w) { vpn = e.vpn; asid = e.asid }

-- the entry that stands in a slot with another EntryLo
abbrev pub rewritten : List Entry → ℕ → ℕ → Option Entry → List Entry
rewritten entries slot w None = entries
rewritten entries slot w (Some e) = slice_set entries slot (with_lo e w)

-- the entry of the slot that was found, if one was, with another EntryLo
abbrev pub found_rewritten : List Entry → ℕ → Option ℕ → List Entry
found_rewritten entries w None = entries
found_rewritten entries w (Some slot) = rewritten entries slot w (slice_get entries slot)

-- what an address space has for a page with another EntryLo; nothing is of who has no address space
abbrev pub with_entry_lo : List Entry → ℕ → Option ℕ → ℕ → List Entry
with_entry_lo entries vpn None w = entries
with_entry_lo entries vpn (Some asid) w = found_rewritten entries w (find entries vpn asid)

-- one entry, where it names the page
abbrev pub memory_at : List ℕ → Places → ℕ → ℕ → Place → granted.Entry → List ℕ
memory_at memory t p page place e =
    if names page e.grant.page then with_word memory t p e.address (word_at place e.grant.right)
    else memory

abbrev pub buffer_at : List Entry → Option ℕ → ℕ → Place → granted.Entry → List Entry
buffer_at entries number page place e =
    if names page e.grant.page
    then with_entry_lo entries (e.address / 2 ^ 12) number (word_at place e.grant.right)
    else entries

-- the entries of a process
abbrev pub memory_of_row : List ℕ → Places → ℕ → ℕ → Place → List granted.Entry → List ℕ
memory_of_row memory t p page place [] = memory
memory_of_row memory t p page place (e ∷ rest) =
    memory_of_row (memory_at memory t p page place e) t p page place rest

abbrev pub buffer_of_row : List Entry → Option ℕ → ℕ → Place → List granted.Entry → List Entry
buffer_of_row entries number page place [] = entries
buffer_of_row entries number page place (e ∷ rest) =
    buffer_of_row (buffer_at entries number page place e) number page place rest

-- the entries of process p and of those after it
abbrev pub memory_of_rows : List ℕ → Places → ℕ → Place → ℕ → Table → List ℕ
memory_of_rows memory t page place p [] = memory
memory_of_rows memory t page place p (row ∷ rows) =
    memory_of_rows (memory_of_row memory t p page place row) t page place (p + 1) rows

abbrev pub buffer_of_rows : List Entry → Spaces → ℕ → Place → ℕ → Table → List Entry
buffer_of_rows entries s page place p [] = entries
buffer_of_rows entries s page place p (row ∷ rows) =
    buffer_of_rows (buffer_of_row entries (number_held s p) page place row) s page place (p + 1) rows
