-- The translation lookaside buffer as the list of its entries, one for each slot.
use Rattle.std.specs.Prelude.{ℕ, ◌+◌, ◌-◌, ◌*◌, ◌^◌, ◌==◌, ◌&&◌, ◌||◌, Bool, false, if◌then◌else◌, List, map, Option, Some, None, position}
use Rattle.std.specs.List.{range_with_len}
use Rattle.ds_tlb.specs.declared.entry.Entry.{Entry}

-- whether an entry answers for a page of an address space
abbrev pub matches : ℕ → ℕ → Entry → Bool
matches vpn asid entry = (entry.vpn == vpn) && (entry.g || (entry.asid == asid))

-- the lowest slot whose entry matches
abbrev pub find : List Entry → ℕ → ℕ → Option ℕ
find entries vpn asid = position (matches vpn asid) entries

-- what slot i holds at the start and after a flush: an address that needs no translation
abbrev pub empty_entry : ℕ → Entry
empty_entry i = record { vpn = 2 ^ 19 + i; asid = 0; pfn = 0; n = false; d = false; v = false; g = false }

-- the entries of n slots at the start
abbrev pub empty_entries : ℕ → List Entry
empty_entries n = map empty_entry (range_with_len 0 n)

-- Random after one more instruction
abbrev pub random_after : ℕ → ℕ → ℕ → ℕ
random_after slots wired random = if random == wired then slots - 1 else random - 1

-- the word that a probe leaves in Index
abbrev pub index_word : Option ℕ → ℕ
index_word None = 2 ^ 31
index_word (Some slot) = slot * 2 ^ 8
