-- The entries of the permission table as text.
use Rattle.std.specs.Prelude.{codes, decimal, ℕ, ◌+◌, ◌-◌, ◌&&◌, nat_lt, nat_le, if◌then◌else◌, List, [], ◌++◌, flat_map, Option, Some, None}
use Rattle.ds_text.specs.Digits.{hex8}
use Rattle.ds_policy.specs.declared.grant.Entry.{Entry}
use Rattle.ds_policy.specs.declared.grant.Grant.{Grant}
use Rattle.ds_policy.specs.Words.{right_word}
use Rattle.ds_policy.specs.Pages.{Table, entries_of}
use Rattle.ds_gdb.specs.Each.{each}
use Rattle.ds_debug.specs.Sights.{Sight}

-- a page by its number, where there is one
abbrev pub page_text : Option ℕ → List ℕ
page_text None = []
page_text (Some n) = codes " page " ++ decimal n

-- what was granted: what may be done, with which page, by which rule, and who gave it
abbrev pub grant_words : Grant → List ℕ
grant_words g = right_word g.right ++ page_text g.page ++ codes " r" ++ decimal g.rule ++ codes " by " ++ decimal g.giver

-- an entry of a process: where it is, and what was granted there
abbrev pub entry_line : ℕ → Entry → List ℕ
entry_line p e = decimal p ++ codes " " ++ hex8 e.address ++ codes " " ++ grant_words e.grant ++ codes "\n"

-- the entries of the process after so many others
abbrev pub entries_text : Table → ℕ → List ℕ
entries_text table i = flat_map (entry_line (i + 1)) (entries_of table (i + 1))

-- those of one process, by its number
abbrev pub table_text_of : ℕ → Sight → List ℕ
table_text_of p s = if nat_lt 0 p && nat_le p s.count then entries_text s.memory.table (p - 1) else codes "there is no such process\n"

-- those of all processes
abbrev pub table_text : Sight → List ℕ
table_text s = each (entries_text s.memory.table) 0 s.count
