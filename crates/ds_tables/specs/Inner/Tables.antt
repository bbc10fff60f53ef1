-- Page tables in memory: for each process a map from addresses to page-table words.
use Rattle.std.specs.Prelude.{ℕ, ◌/◌, ◌^◌, ◌==◌, ◌&&◌, if◌then◌else◌, List, Option, Some, None}
use Rattle.ds_word.specs.Bytes.{with_word}
use Rattle.ds_mem.specs.Memory.{with_frame, zeros}
use Rattle.ds_tables.specs.Places.{Places, region_of, region_place, page_of_table, table_frame}
use Rattle.ds_tables.specs.Inner.Places.{free_place, has_place, opened}
use Rattle.ds_tables.specs.Tables.{table_word_place, entry_word}

-- by the region's place and the first that is free
abbrev pub with_table_by : List ℕ → ℕ → Option ℕ → Option ℕ → List ℕ
with_table_by memory p (Some place) free = memory
with_table_by memory p None None = memory
with_table_by memory p None (Some free) = with_frame memory (table_frame p free) (zeros 4096)

-- memory once a region has a table, which is all zero where it is new
abbrev pub with_table : List ℕ → Places → ℕ → ℕ → List ℕ
with_table memory t p region = with_table_by memory p (region_place t p region) (free_place t p)

-- memory with a page-table word replaced whose region has a table
abbrev pub with_entry_word : List ℕ → Places → ℕ → ℕ → ℕ → List ℕ
with_entry_word memory t p address w = with_word memory (table_word_place (page_of_table t p (region_of address)) address) w

-- memory once a page-table word is put, where there is a place for its table
abbrev pub with_entry : List ℕ → Places → ℕ → ℕ → ℕ → List ℕ
with_entry memory t p address w =
    if has_place t p (region_of address)
    then with_entry_word (with_table memory t p (region_of address)) (opened t p (region_of address)) p address w
    else memory

-- the words of all processes once one is put
abbrev pub word_once_put : List ℕ → Places → ℕ → ℕ → ℕ → ℕ → ℕ → ℕ
word_once_put memory t p address w q other = if (q == p) && (other / 2 ^ 12 == address / 2 ^ 12) then w else entry_word memory t q other

-- the words of all processes once a region of one is closed
abbrev pub word_once_closed : List ℕ → Places → ℕ → ℕ → ℕ → ℕ → ℕ
word_once_closed memory t p region q other = if (q == p) && (region_of other == region) then 0 else entry_word memory t q other
