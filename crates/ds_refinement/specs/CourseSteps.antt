-- What a unit may do next.
use Rattle.std.specs.Prelude.{ℕ, ◌+◌, ◌/◌, ◌==◌, if◌then◌else◌, List, [], ◌∷◌}

-- the page in which the page table has the word of a page
abbrev pub table_page : ℕ → ℕ
table_page page = 0xC0000 + page / 1024

-- the steps of Random since the first refill, one step later
abbrev pub later : List ℕ → ℕ → ℕ
later [] since = since
later (slot ∷ more) since = since + 1

-- the next of the first eight slots
abbrev pub next_wired : ℕ → ℕ
next_wired slot = if slot == 7 then 0 else slot + 1
