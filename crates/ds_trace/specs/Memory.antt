-- The lines of memory: words of a process, as its entries let it read them.
use Rattle.std.specs.Prelude.{codes, decimal, ℕ, zero, suc, ◌+◌, ◌*◌, ◌%◌, ◌==◌, ◌||◌, if◌then◌else◌, List, [], ◌++◌, Option, Some, None}
use Rattle.ds_text.specs.Digits.{hex8}
use Rattle.ds_policy.specs.Grants.{PageState}
use Rattle.ds_station.specs.Reads.{word_read}

-- a word in hexadecimal digits, or a sign for one that may not be read
abbrev pub read_word_text : Option ℕ → List ℕ
read_word_text None = codes " -"
read_word_text (Some w) = codes " " ++ hex8 w

-- before each eighth word, where a line begins: the process, and the address of the word
abbrev pub line_front_text : ℕ → ℕ → ℕ → List ℕ
line_front_text p address i = if i % 8 == 0 then codes "memory " ++ decimal p ++ codes " " ++ hex8 address ++ codes ":" else []

-- after the last word of eight, and after the last of all, where a line ends
abbrev pub back_text : ℕ → ℕ → List ℕ
back_text count i = if (i % 8 == 7) || (i + 1 == count) then codes "\n" else []

-- a word by its number among so many, in its line
abbrev pub piece_text : PageState → ℕ → ℕ → ℕ → ℕ → List ℕ
piece_text s p address count i = line_front_text p (address + 4 * i) i ++ read_word_text (word_read s p (address + 4 * i)) ++ back_text count i

-- those of a process from an address on, of which so many are left from this number on
abbrev pub pieces_text : PageState → ℕ → ℕ → ℕ → ℕ → ℕ → List ℕ
pieces_text s p address count i zero = []
pieces_text s p address count i (suc left) = piece_text s p address count i ++ pieces_text s p address count (i + 1) left

-- so many words of a process from an address on, eight in a line
abbrev pub memory_text : PageState → ℕ → ℕ → ℕ → List ℕ
memory_text s p address count = pieces_text s p address count 0 count
