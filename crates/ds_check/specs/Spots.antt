-- Where a byte of an image stands in its source.
use Rattle.std.specs.Prelude.{ℕ, ◌+◌, ◌==◌, nat_lt, Bool, if◌then◌else◌, List, [], ◌∷◌, length, Option, None, Some}
use Rattle.ds_listing.specs.Listing.{ListedLine}

-- a line of a source, and the first label at a byte of it
pub record SourceSpot : Type 0 where
  pub line : ℕ
  pub label : Option (List ℕ)

-- the label that was found before, or else that of a line, where the line stands at the byte
abbrev pub label_after : Option (List ℕ) → Bool → Option (List ℕ) → Option (List ℕ)
label_after (Some before) is_here label = Some before
label_after None is_here label = if is_here then label else None

-- the first of these lines that ends past a byte, in which the byte lies, and the first label at it;
-- this label was found before, or none
abbrev pub spot_after : ℕ → Option (List ℕ) → List ListedLine → Option SourceSpot
spot_after byte label [] = None
spot_after byte label (row ∷ rows) =
    if nat_lt byte (row.place + length row.bytes)
    then Some (record { line = row.number; label = label_after label (row.place == byte) row.label })
    else spot_after byte (label_after label (row.place == byte) row.label) rows
