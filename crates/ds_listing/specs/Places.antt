-- Where the bytes of an image stand in its source.
use Rattle.std.specs.Prelude.{codes, decimal, ℕ, ◌+◌, ◌-◌, ◌==◌, nat_lt, if◌then◌else◌, List, [], ◌∷◌, ◌++◌, length, Option, None, Some, option_map}
use Rattle.ds_listing.specs.declared.places.Label as code
use Rattle.ds_listing.specs.declared.places.LinePlace as code_place
use Rattle.ds_listing.specs.Listing.{ListedLine}

-- a label, and where it stands in the image
pub record Label : Type 0 where
  pub name : List ℕ
  pub place : ℕ

-- a line: its number, where it ends in the image, and the last label that stands on it or before it
pub record LinePlace : Type 0 where
  pub number : ℕ
  pub end : ℕ
  pub label : Option Label

-- the label after a line with this one: of labels at one place the first
abbrev pub label_over : Option Label → ℕ → List ℕ → Option Label
label_over None at name = Some (record { name = name; place = at })
label_over (Some before) at name = if before.place == at then Some before else Some (record { name = name; place = at })

-- the last label after a line that stands at a place, which has a label or none
abbrev pub label_past : Option Label → ℕ → Option (List ℕ) → Option Label
label_past before at None = before
label_past before at (Some name) = label_over before at name

-- lines with where they end and their labels, where this label comes last before them
abbrev pub places_from : Option Label → List ListedLine → List LinePlace
places_from before [] = []
places_from before (row ∷ rows) =
    record { number = row.number; end = row.place + length row.bytes; label = label_past before row.place row.label }
    ∷ places_from (label_past before row.place row.label) rows

-- the lines of a source
abbrev pub line_places_of : List ListedLine → List LinePlace
line_places_of rows = places_from None rows

-- the line of a byte: the first that ends past it
abbrev pub line_of_byte : ℕ → List LinePlace → Option LinePlace
line_of_byte byte [] = None
line_of_byte byte (line ∷ lines) = if nat_lt byte line.end then Some line else line_of_byte byte lines

-- how far a byte lies past a label, where it lies past it
abbrev pub offset_text : ℕ → List ℕ
offset_text offset = if offset == 0 then [] else codes "+" ++ decimal offset

-- a label with the offset of a byte, where there is one
abbrev pub label_text : ℕ → Option Label → List ℕ
label_text byte None = []
label_text byte (Some l) = codes " " ++ (l.name ++ offset_text (byte - l.place))

-- a byte of a source of this name: the name with the number of the byte's line, and the label; where it is on no line, nothing
abbrev pub place_text : List ℕ → ℕ → Option LinePlace → List ℕ
place_text source byte None = []
place_text source byte (Some line) = source ++ (codes ":" ++ (decimal line.number ++ label_text byte line.label))

-- the same of the code's
abbrev pub plain_label : code.Label → Label
plain_label l = record { name = l.name.now; place = l.place }

abbrev pub plain_line_place : code_place.LinePlace → LinePlace
plain_line_place l = record { number = l.number; end = l.end; label = option_map plain_label l.label }
