-- Page tables in memory: for each process a map from addresses to page-table words.
use Rattle.std.specs.Prelude.{◌≡◌, ℕ, ◌+◌, ◌*◌, ◌/◌, ◌%◌, ◌^◌, List}
use Rattle.ds_word.specs.Bytes.{word_at}
use Rattle.ds_mem.specs.Memory.{frame_of, zeros}
use Rattle.ds_tables.specs.Places.{Places, region_of, page_of_table}

-- where the word of an address stands in the frame of its table
abbrev pub table_word_place : ℕ → ℕ → ℕ
table_word_place frame address = frame * 2 ^ 12 + address / 2 ^ 12 % 2 ^ 10 * 4

-- the page-table word of a process for an address
abbrev pub entry_word : List ℕ → Places → ℕ → ℕ → ℕ
entry_word memory t p address = word_at memory (table_word_place (page_of_table t p (region_of address)) address)

-- frame 1, which stands for each table that isn't there, is zero
abbrev pub HasEmptyTable : List ℕ → Type 0
HasEmptyTable memory = frame_of memory 1 ≡ zeros 4096
