-- The listing of a source: each line with its place in the image and its bytes there, and the labels.
use Rattle.std.specs.Prelude.{codes, decimal, ℕ, ◌+◌, ◌-◌, List, [], ◌∷◌, ◌++◌, length, replicate, take, drop, Option, None, Some, Result, Ok}
use Rattle.std.specs.List.{flat_map}
use Rattle.ds_word.specs.ResultBinding.{◌>>=◌}
use Rattle.ds_asm.specs.declared.fault.SourceFault.{SourceFault}
use Rattle.ds_asm.specs.Lines.{line_of}
use Rattle.ds_asm.specs.Assembly.{origin, lines_of, assembled}
use Rattle.ds_asm.specs.Faults.{label_in, size_in}
use Rattle.ds_text.specs.Digits.{hex2, hex8}

-- a line: its number, where it stands in the image, its bytes there, its label and its text
pub record ListedLine : Type 0 where
  pub number : ℕ
  pub place : ℕ
  pub bytes : List ℕ
  pub label : Option (List ℕ)
  pub text : List ℕ

-- line n, at a place from which on this is left of the image
abbrev pub row_of : ℕ → ℕ → List ℕ → List ℕ → ListedLine
row_of n at left line = record {
  number = n;
  place = at;
  bytes = take (size_in (line_of line)) left;
  label = label_in (line_of line);
  text = line;
}

-- lines of which the first is line n, each with as many bytes of what is left as it has
abbrev pub rows_from : ℕ → ℕ → List ℕ → List (List ℕ) → List ListedLine
rows_from n at left [] = []
rows_from n at left (line ∷ lines) =
    row_of n at left line
    ∷ rows_from (n + 1) (at + length (take (size_in (line_of line)) left)) (drop (size_in (line_of line)) left) lines

-- the lines of a source that has an image
abbrev pub rows_of : List ℕ → List ℕ → List ListedLine
rows_of text image = rows_from 1 0 image (lines_of text)

-- four bytes as their word, with the highest byte first; one byte; and zeros by their number
abbrev pub bytes_text : List ℕ → List ℕ
bytes_text (a ∷ b ∷ c ∷ d ∷ []) = hex2 d ++ (hex2 c ++ (hex2 b ++ hex2 a))
bytes_text (b ∷ []) = hex2 b
bytes_text zeros = codes "00 x " ++ decimal (length zeros)

-- blanks before a text, or after it, up to a width
abbrev pub blanks_before : ℕ → List ℕ → List ℕ
blanks_before width text = replicate (width - length text) 32 ++ text

abbrev pub blanks_past : ℕ → List ℕ → List ℕ
blanks_past width text = text ++ replicate (width - length text) 32

-- the address of a place of the image
abbrev pub address_text : ℕ → List ℕ
address_text at = hex8 (origin + at)

-- where bytes stand, and the bytes; as wide where there are none
abbrev pub shown_text : ℕ → List ℕ → List ℕ
shown_text at [] = replicate 20 32
shown_text at (b ∷ bs) = address_text at ++ (codes "  " ++ blanks_past 10 (bytes_text (b ∷ bs)))

-- what stands after a line's number: nothing, where the line is empty
abbrev pub after_number : ListedLine → List ℕ → List ℕ
after_number r [] = []
after_number r (c ∷ cs) = codes "  " ++ (shown_text r.place r.bytes ++ (codes "  " ++ c ∷ cs))

-- a line of the listing
abbrev pub row_text : ListedLine → List ℕ
row_text r = blanks_before 5 (decimal r.number) ++ (after_number r r.text ++ 10 ∷ [])

-- a label with its value, where a line has one
abbrev pub label_line_text : ℕ → Option (List ℕ) → List ℕ
label_line_text at None = []
label_line_text at (Some name) = address_text at ++ (codes "  " ++ (name ++ 10 ∷ []))

-- the labels of lines, and a line that says so before them
abbrev pub labels_text : List ListedLine → List ℕ
labels_text rows = codes "labels\n" ++ flat_map (λ r. label_line_text r.place r.label) rows

-- the lines, and after them the labels
abbrev pub rows_text : List ListedLine → List ℕ
rows_text rows = flat_map row_text rows ++ labels_text rows

-- the listing of a source, or its first fault
abbrev pub listing_of : List ℕ → Result (List ℕ) SourceFault
listing_of text = assembled text >>= (λ image. Ok (rows_text (rows_of text image)))
