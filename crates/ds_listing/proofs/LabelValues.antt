-- The labels at a listing's end are the assembler's.
use Rattle.std.proofs.Common.{◌≡◌, ◌∙◌, sym, ap, refl, ℕ, ◌+◌, ◌≤◌, Bool, if◌then◌else◌, true, false, List, [], ◌∷◌, ◌++◌, length, append_assoc, append-nil, Option, Some, None, is_some, Result, Ok, Err, arith}
use Rattle.std.specs.Prelude.{codes, reverse}
use Rattle.std.specs.List.{flat_map}
use Rattle.std.proofs.lemmas.Grind.{flat_map-append}
use Rattle.std.proofs.lemmas.List.{reverse-append}
use Rattle.std.proofs.Math.Seq.{take-append_seam}
use Rattle.ds_word.proofs.ResultBinding.{bind_ok}
use Rattle.ds_asm.specs.declared.cause.Cause.TheVariants.{DoubleLabel}
use Rattle.ds_asm.specs.declared.syntax.SyntaxCause.{SyntaxCause}
use Rattle.ds_asm.specs.Lines.{Line, line_of}
use Rattle.ds_asm.specs.Assembly.{at_line, Labels, Layout, empty_layout, origin, label_address, labelled, sized, laid_line, laid_lines, line_bytes, bytes_from, lines_of, assembled}
use Rattle.ds_asm.specs.Faults.{label_in, size_in}
use Rattle.ds_asm.proofs.ImageSizes.{laid_size, line_good, line_length}
use Rattle.ds_listing.specs.Listing.{ListedLine, rows_from, rows_of, label_line_text, row_text, rows_text}
use Rattle.ds_listing.specs.Inner.Listing.{value_text, EndsWithLabels}
use Rattle.ds_listing.proofs.Listings.{drop_seam}

-- a label with its value, and those of lines
abbrev value_at : ℕ → Option (List ℕ) → Labels
value_at at None = []
value_at at (Some name) = (name, origin + at) ∷ []

abbrev values_of : List ListedLine → Labels
values_of rows = flat_map (λ r. value_at r.place r.label) rows

-- their texts
value_said : (at : ℕ) (label : Option (List ℕ)) → label_line_text at label ≡ flat_map value_text (value_at at label)
value_said at None = refl
value_said at (Some name) = sym (append-nil (value_text (name, origin + at)))

values_said : (rows : List ListedLine) → flat_map (λ r. label_line_text r.place r.label) rows ≡ flat_map value_text (values_of rows)
values_said [] = refl
values_said (r ∷ rows) =
    ap (λ ys. ys ++ flat_map (λ r. label_line_text r.place r.label) rows) (value_said r.place r.label)
    ∙ (ap (λ ys. flat_map value_text (value_at r.place r.label) ++ ys) (values_said rows)
    ∙ sym (flat_map-append value_text (value_at r.place r.label) (values_of rows)))

-- a label that is let in
named_by : (b : Bool) (at : ℕ) (name : List ℕ) (labels more : Labels) → (if b then Err DoubleLabel else Ok ((name, origin + at) ∷ labels)) ≡ Ok more → more ≡ (name, origin + at) ∷ labels
named_by true at name labels more h = cc
named_by false at name labels more h = cc

label_named : (at : ℕ) (label : Option (List ℕ)) (labels more : Labels) → labelled at label labels ≡ Ok more → more ≡ value_at at label ++ labels
label_named at None labels more h = cc
label_named at (Some name) labels more h = named_by (is_some (label_address labels name)) at name labels more h

line_named : (m next : Layout) (x : Result Line SyntaxCause) → laid_line x m ≡ Ok next → next.labels ≡ value_at m.size (label_in x) ++ m.labels
line_named m next (Err cause) h = cc
line_named m next (Ok line) h =
    let (labels, a, b) = bind_ok (labelled m.size line.label m.labels) _ next h in
    let (size, c, d) = bind_ok (sized m.size line.statement) (λ size. Ok (record { labels = labels; size = size })) next b in
    let same : labels ≡ next.labels = (let e : record { labels = labels; size = size } ≡ next = cc in ap (λ (l : Layout). l.labels) e) in
    sym same ∙ label_named m.size line.label m.labels labels a

reverse_value : (at : ℕ) (label : Option (List ℕ)) → reverse (value_at at label) ≡ value_at at label
reverse_value at None = refl
reverse_value at (Some name) = refl

-- the labels after a line, the oldest first
past_line : (at : ℕ) (label : Option (List ℕ)) (labels more : Labels) → more ≡ value_at at label ++ labels → reverse more ≡ reverse labels ++ value_at at label
past_line at label labels more h = ap reverse h ∙ (reverse-append (value_at at label) labels ∙ ap (λ vs. reverse labels ++ vs) (reverse_value at label))

-- what a line adds, where what is left begins with its bytes
row_named : (n at : ℕ) (line : List ℕ) (lines : List (List ℕ)) (more tail : List ℕ) → length more ≡ size_in (line_of line)
    → values_of (rows_from n at (more ++ tail) (line ∷ lines)) ≡ value_at at (label_in (line_of line)) ++ values_of (rows_from (n + 1) (at + size_in (line_of line)) tail lines)
row_named n at line lines more tail long =
    let here = take-append_seam more tail in
    let rest = drop_seam more tail in
    rw (sym long, here, rest) refl

lines_named : (n : ℕ) (find : List ℕ → Option ℕ) (bytes out : List ℕ) (lines : List (List ℕ)) (m last : Layout) → m.size ≤ 65536
    → laid_lines n m lines ≡ Ok last → bytes_from n find bytes lines ≡ Ok out
    → (tail : List ℕ) × (out ≡ bytes ++ tail) × (reverse last.labels ≡ reverse m.labels ++ values_of (rows_from n m.size tail lines))
lines_named n find bytes out [] m last few g h =
    let same : bytes ≡ out = cc in
    let kept : m ≡ last = cc in
    ([], sym same ∙ sym (append-nil bytes), ap (λ (l : Layout). reverse l.labels) (sym kept) ∙ sym (append-nil (reverse m.labels)))
lines_named n find bytes out (line ∷ lines) m last few g h =
    let (next, u, v) = bind_ok (at_line n (laid_line (line_of line) m)) (λ more. laid_lines (n + 1) more lines) last g in
    let (more, a, b) = bind_ok (at_line n (line_bytes find (length bytes) (line_of line))) (λ more. bytes_from (n + 1) find (bytes ++ more) lines) out h in
    let laid = line_good n _ u in
    let (grown, room) = laid_size m next (line_of line) few laid in
    let (tail, e, named) = lines_named (n + 1) find (bytes ++ more) out lines next last room v b in
    let long = line_length find (length bytes) (line_of line) more (line_good n _ a) in
    let here = value_at m.size (label_in (line_of line)) in (
      more ++ tail,
      e ∙ append_assoc bytes more tail,
      named
          ∙ (ap (λ ls. ls ++ values_of (rows_from (n + 1) next.size tail lines)) (past_line m.size (label_in (line_of line)) m.labels next.labels (line_named m next (line_of line) laid))
          ∙ (append_assoc (reverse m.labels) here (values_of (rows_from (n + 1) next.size tail lines))
          ∙ ap (λ vs. reverse m.labels ++ vs) (ap (λ (k : ℕ). here ++ values_of (rows_from (n + 1) k tail lines)) grown ∙ sym (row_named n m.size line lines more tail long)))),
    )

rows_named : (text image : List ℕ) (layout : Layout) → laid_lines 1 empty_layout (lines_of text) ≡ Ok layout → assembled text ≡ Ok image
    → values_of (rows_of text image) ≡ reverse layout.labels
rows_named text image layout g h =
    let (l, a, b) = bind_ok (laid_lines 1 empty_layout (lines_of text)) (λ layout. bytes_from 1 (label_address layout.labels) [] (lines_of text)) image h in
    let (tail, e, named) = lines_named 1 (label_address l.labels) [] image (lines_of text) empty_layout layout (omega arith) g b in
    ap (λ (i : List ℕ). values_of (rows_from 1 0 i (lines_of text))) e ∙ sym named

-- so a listing ends with them
pub ends_with_labels : (text image sheet : List ℕ) (layout : Layout) → laid_lines 1 empty_layout (lines_of text) ≡ Ok layout → assembled text ≡ Ok image
    → sheet ≡ rows_text (rows_of text image) → EndsWithLabels layout.labels sheet
ends_with_labels text image sheet layout g h said =
    let rows = rows_of text image in (
      flat_map row_text rows,
      said ∙ ap (λ ys. flat_map row_text rows ++ (codes "labels\n" ++ ys)) (values_said rows ∙ ap (flat_map value_text) (rows_named text image layout g h)),
    )
