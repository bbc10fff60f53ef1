-- The text of a word, with registers called by their numbers or by their common names.
use Rattle.std.specs.Prelude.{codes, ℕ, ◌==◌, if◌then◌else◌, List, ◌∷◌, ◌++◌}
use Rattle.ds_text.specs.Names.{register_name}
use Rattle.ds_listing.specs.declared.names.RegisterNames.{RegisterNames}
use Rattle.ds_listing.specs.declared.names.RegisterNames.TheVariants.{Numbers, Common}
use Rattle.ds_listing.specs.Sources.{elf_comment, lines_by}
use Rattle.ds_listing.specs.Texts.{form_of, register_read_text, word_by}

-- a register, by its number or by its common name, which the assembler reads
abbrev pub register_as : RegisterNames → ℕ → List ℕ
register_as Numbers n = register_read_text n
register_as Common n = 36 ∷ register_name n

-- the text of a word
unfoldable pub text_as : RegisterNames → ℕ → List ℕ
text_as names w = if w == 0 then codes "nop" else word_by (register_as names) w (form_of w)

-- the text of bytes
abbrev pub bytes_as : RegisterNames → List ℕ → List ℕ
bytes_as names bytes = lines_by (text_as names) bytes

-- the text of a file: that of its bytes, after the comment
abbrev pub file_as : RegisterNames → List ℕ → List ℕ
file_as names bytes = elf_comment bytes ++ bytes_as names bytes
