-- The source of bytes, and of a file.
use Rattle.std.specs.Prelude.{ℕ, List, ◌++◌}
use Rattle.ds_listing.specs.Texts.{text_of}
use Rattle.ds_listing.specs.Sources.{lines_by, elf_comment}

-- the text of bytes
abbrev pub source_of_bytes : List ℕ → List ℕ
source_of_bytes bytes = lines_by text_of bytes

-- the text of a file: that of its bytes, after the comment
abbrev pub source_of_file : List ℕ → List ℕ
source_of_file bytes = elf_comment bytes ++ source_of_bytes bytes
