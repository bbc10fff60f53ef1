-- The source of bytes, and of a file.
use Rattle.std.specs.Prelude.{codes, ℕ, ◌+◌, ◌*◌, ◌^◌, ◌==◌, if◌then◌else◌, List, [], ◌∷◌, ◌++◌}
use Rattle.std.specs.List.{flat_map, starts_with}
use Rattle.ds_text.specs.Digits.{hex2}

-- the word of four bytes, the lowest first
abbrev pub word_of_bytes : ℕ → ℕ → ℕ → ℕ → ℕ
word_of_bytes a b c d = a + 2 ^ 8 * b + 2 ^ 16 * c + 2 ^ 24 * d

-- a byte by its number
abbrev pub byte_text : ℕ → List ℕ
byte_text b = codes ".byte 0x" ++ hex2 b

-- a line of it
abbrev pub byte_line : ℕ → List ℕ
byte_line b = byte_text b ++ 10 ∷ []

-- a line for each byte
abbrev pub byte_lines : List ℕ → List ℕ
byte_lines bytes = flat_map byte_line bytes

-- a line for the word of each four bytes, by the texts of words, and for each byte that is left a line of its own
abbrev pub lines_by : (ℕ → List ℕ) → List ℕ → List ℕ
lines_by text (a ∷ b ∷ c ∷ d ∷ bytes) = text (word_of_bytes a b c d) ++ 10 ∷ lines_by text bytes
lines_by text bytes = byte_lines bytes

-- the bytes with which an ELF file begins
abbrev pub elf_magic : List ℕ
elf_magic = 0x7F ∷ codes "ELF"

-- a comment that tells of them, where a file has them
abbrev pub elf_comment : List ℕ → List ℕ
elf_comment bytes = if starts_with (λ a b. a == b) bytes elf_magic then codes "# this file begins as an ELF file does\n" else []
