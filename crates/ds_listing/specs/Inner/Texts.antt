-- The text of a word, as the assembler reads it.
use Rattle.std.specs.Prelude.{ℕ, List, [], ◌∷◌, ◌++◌, Option, Some, None}
use Rattle.std.specs.List.{flat_map}
use Rattle.ds_isa.specs.Inner.Encoding.{Entry, InRow, OfCoprocessor, OfNone}
use Rattle.ds_listing.specs.Texts.{Form, text_of}

-- the form of an entry of the table, if it is a row
abbrev pub form_in : Entry → Option Form
form_in (InRow row values) = Some (record { name = row.name; operands = row.operands })
form_in (OfCoprocessor w) = None
form_in (OfNone w) = None

-- the text of words, a line for each
abbrev pub source_of : List ℕ → List ℕ
source_of words = flat_map (λ w. text_of w ++ 10 ∷ []) words
