-- Where the lines of a source end and what labels they have, a line at a time.
use Rattle.std.proofs.Common.{◌≡◌, ◌∙◌, sym, ap, refl, ℕ, ◌+◌, List, [], ◌∷◌, ◌++◌, append_assoc, length, take, drop, Option}
use Rattle.ds_asm.specs.Lines.{line_of}
use Rattle.ds_asm.specs.Assembly.{lines_of}
use Rattle.ds_asm.specs.Faults.{label_in, size_in}
use Rattle.ds_listing.specs.Listing.{ListedLine, rows_from}
use Rattle.ds_listing.specs.Places.{Label, LinePlace, label_past, places_from}

-- a line more
pub line_placed : (n at place : ℕ) (left bytes further text line afterwards : List ℕ) (before next : Option Label) (label : Option (List ℕ)) (xs new whole : List LinePlace)
    → lines_of text ≡ line ∷ lines_of afterwards
    → bytes ≡ take (size_in (line_of line)) left → further ≡ drop (size_in (line_of line)) left → label ≡ label_in (line_of line)
    → place ≡ at + length bytes → next ≡ label_past before at label
    → new ≡ xs ++ record { number = n; end = place; label = next } ∷ []
    → xs ++ places_from before (rows_from n at left (lines_of text)) ≡ whole
    → new ++ places_from next (rows_from (n + 1) place further (lines_of afterwards)) ≡ whole
line_placed n at place left bytes further text line afterwards before next label xs new whole first b d l p s added h =
    let k : ℕ = size_in (line_of line) in
    let said : Option Label = label_past before at (label_in (line_of line)) in
    let rest : List LinePlace = places_from said (rows_from (n + 1) (at + length (take k left)) (drop k left) (lines_of afterwards)) in
    let here : LinePlace = record { number = n; end = at + length (take k left); label = said } in
    let grown : place ≡ at + length (take k left) = p ∙ ap (λ (ys : List ℕ). at + length ys) b in
    let named : next ≡ said = s ∙ ap (label_past before at) l in
    let tail : places_from next (rows_from (n + 1) place further (lines_of afterwards)) ≡ rest = rw (named, grown, d) refl in
    let one : record { number = n; end = place; label = next } ≡ here = rw (named, grown) refl in
    ap (λ (ps : List LinePlace). new ++ ps) tail
    ∙ (ap (λ (ps : List LinePlace). ps ++ rest) (added ∙ ap (λ (q : LinePlace). xs ++ q ∷ []) one)
    ∙ (append_assoc xs (here ∷ []) rest ∙ (ap (λ (rows : List ListedLine). xs ++ places_from before rows) (sym (ap (rows_from n at left) first)) ∙ h)))
