-- Listings: a line at a time, and what they show.
use Rattle.std.proofs.Common.{◌≡◌, ◌∙◌, sym, ap, subst, refl, inl, inr, ℕ, ◌+◌, List, [], ◌∷◌, ◌++◌, length, length-append, append_assoc, append-nil, replicate, take, drop, Option, Some, None, Result, Ok, Err, arith}
use Rattle.std.specs.List.{flat_map}
use Rattle.std.proofs.lemmas.List.{length-replicate, take-append-drop}
use Rattle.std.proofs.Math.Seq.{take-append_seam, drop-append-add}
use Rattle.ds_word.proofs.ResultBinding.{bind_ok}
use Rattle.ds_asm.specs.declared.syntax.SyntaxCause.{SyntaxCause}
use Rattle.ds_asm.specs.Lines.{Statement, Encoded, WordNumber, WordLabel, Byte, Space, Line, line_of}
use Rattle.ds_asm.specs.Assembly.{at_line, empty_layout, label_address, laid_lines, statement_bytes, optional_bytes, line_bytes, bytes_from, lines_of, assembled}
use Rattle.ds_asm.specs.Faults.{label_in, size_in}
use Rattle.ds_asm.proofs.ImageSizes.{line_good, line_length, statement_length}
use Rattle.ds_listing.specs.Listing.{ListedLine, row_of, rows_from, rows_of}
use Rattle.ds_listing.specs.Inner.Listing.{IsTold, Shows}

-- a line more
one_line : (f : ListedLine → List ℕ) (xs new : List ℕ) (r : ListedLine) (rs rows : List ListedLine) (whole : List ℕ) → rows ≡ r ∷ rs → new ≡ xs ++ f r → xs ++ flat_map f rows ≡ whole → new ++ flat_map f rs ≡ whole
one_line f xs new r rs rows whole first added h =
    ap (λ ys. ys ++ flat_map f rs) added
    ∙ (append_assoc xs (f r) (flat_map f rs) ∙ (ap (λ ls. xs ++ flat_map f ls) (sym first) ∙ h))

pub line_more : (f : ListedLine → List ℕ) (n at place : ℕ) (left bytes further text line afterwards xs new whole : List ℕ) (label : Option (List ℕ))
    → lines_of text ≡ line ∷ lines_of afterwards
    → bytes ≡ take (size_in (line_of line)) left → further ≡ drop (size_in (line_of line)) left → label ≡ label_in (line_of line)
    → place ≡ at + length bytes
    → new ≡ xs ++ f (record { number = n; place = at; bytes = bytes; label = label; text = line })
    → xs ++ flat_map f (rows_from n at left (lines_of text)) ≡ whole
    → new ++ flat_map f (rows_from (n + 1) place further (lines_of afterwards)) ≡ whole
line_more f n at place left bytes further text line afterwards xs new whole label first b d l p added h =
    let row : record { number = n; place = at; bytes = bytes; label = label; text = line } ≡ row_of n at left line = rw (b, l) refl in
    let grown : place ≡ at + length (take (size_in (line_of line)) left) = p ∙ ap (λ (ys : List ℕ). at + length ys) b in
    let tail : rows_from (n + 1) place further (lines_of afterwards) ≡ rows_from (n + 1) (at + length (take (size_in (line_of line)) left)) (drop (size_in (line_of line)) left) (lines_of afterwards) =
    ap (λ (k : ℕ). rows_from (n + 1) k further (lines_of afterwards)) grown
    ∙ ap (λ (ys : List ℕ). rows_from (n + 1) (at + length (take (size_in (line_of line)) left)) ys (lines_of afterwards)) d in
    ap (λ (rs : List ListedLine). new ++ flat_map f rs) tail
    ∙ one_line f xs new (row_of n at left line) _ (rows_from n at left (lines_of text)) whole (ap (rows_from n at left) first) (added ∙ ap (λ (r : ListedLine). xs ++ f r) row) h

pub no_line : (f : ListedLine → List ℕ) (n at : ℕ) (left text xs whole : List ℕ) → length text ≡ 0 → xs ++ flat_map f (rows_from n at left (lines_of text)) ≡ whole → xs ≡ whole
no_line f n at left [] xs whole none h = sym (append-nil xs) ∙ h
no_line f n at left (x ∷ text) xs whole none h = absurd (omega arith)

-- what is cut off, and what is left
pub cut_length : (k : ℕ) (left bytes further : List ℕ) → bytes ≡ take k left → further ≡ drop k left → length bytes + length further ≡ length left
cut_length k left bytes further b d =
    let whole : length (take k left ++ drop k left) ≡ length left = ap length (take-append-drop k left) in
    rw (b, d) (omega (arith, length-append (take k left) (drop k left)))

-- The bytes of the lines are those of the image.
pub drop_seam : (xs ys : List ℕ) → drop (length xs) (xs ++ ys) ≡ ys
drop_seam xs ys = ap (λ (k : ℕ). drop k (xs ++ ys)) (omega arith) ∙ drop-append-add xs ys 0

-- and each line's are told
statement_told : (find : List ℕ → Option ℕ) (at : ℕ) (s : Statement) (more : List ℕ) → statement_bytes find at s ≡ Ok more → IsTold more
statement_told find at (Encoded i) more h = inr (inl (statement_length find at (Encoded i) more h))
statement_told find at (WordNumber x) more h = inr (inl (statement_length find at (WordNumber x) more h))
statement_told find at (WordLabel name) more h = inr (inl (statement_length find at (WordLabel name) more h))
statement_told find at (Byte x) more h = inl (statement_length find at (Byte x) more h)
statement_told find at (Space x) more h =
    let same : replicate x.magnitude 0 ≡ more = cc in
    inr (inr (subst (λ (ys : List ℕ). ys ≡ replicate (length ys) 0) same (ap (λ (k : ℕ). replicate k 0) (sym (length-replicate x.magnitude 0)))))

none_told : IsTold []
none_told = inr (inr refl)

optional_told : (find : List ℕ → Option ℕ) (at : ℕ) (s : Option Statement) (more : List ℕ) → optional_bytes find at s ≡ Ok more → IsTold more
optional_told find at None more h = let same : [] ≡ more = cc in subst IsTold same none_told
optional_told find at (Some s) more h = statement_told find at s more h

line_told : (find : List ℕ → Option ℕ) (at : ℕ) (x : Result Line SyntaxCause) (more : List ℕ) → line_bytes find at x ≡ Ok more → IsTold more
line_told find at (Err cause) more h = let same : [] ≡ more = cc in subst IsTold same none_told
line_told find at (Ok line) more h = optional_told find at line.statement more h

first_shown : (n at : ℕ) (line : List ℕ) (lines : List (List ℕ)) (more tail : List ℕ) → size_in (line_of line) ≡ length more → IsTold more
    → ((place : ℕ) → Shows (rows_from (n + 1) place tail lines) tail)
    → Shows (rows_from n at (more ++ tail) (line ∷ lines)) (more ++ tail)
first_shown n at line lines more tail long told next =
    let here = take-append_seam more tail in
    let rest = drop_seam more tail in
    let shows = next (at + length more) in
    record {
      bytes = rw (long, here, rest) (ap (λ ys. more ++ ys) shows.bytes);
      told = rw (long, here, rest) (told, shows.told);
    }

lines_shown : (n : ℕ) (find : List ℕ → Option ℕ) (bytes out : List ℕ) (lines : List (List ℕ)) → bytes_from n find bytes lines ≡ Ok out
    → (tail : List ℕ) × (out ≡ bytes ++ tail) × ((at : ℕ) → Shows (rows_from n at tail lines) tail)
lines_shown n find bytes out [] h =
    let same : bytes ≡ out = cc in
    ([], sym same ∙ sym (append-nil bytes), λ at. record { bytes = refl; told = tt })
lines_shown n find bytes out (line ∷ lines) h =
    let (more, a, b) = bind_ok (at_line n (line_bytes find (length bytes) (line_of line))) (λ more. bytes_from (n + 1) find (bytes ++ more) lines) out h in
    let (tail, e, next) = lines_shown (n + 1) find (bytes ++ more) out lines b in
    let good = line_good n _ a in
    let long = line_length find (length bytes) (line_of line) more good in
    (more ++ tail, e ∙ append_assoc bytes more tail, λ at. first_shown n at line lines more tail (sym long) (line_told find (length bytes) (line_of line) more good) next)

pub image_shown : (text image : List ℕ) → assembled text ≡ Ok image → Shows (rows_of text image) image
image_shown text image h =
    let (layout, a, b) = bind_ok (laid_lines 1 empty_layout (lines_of text)) (λ layout. bytes_from 1 (label_address layout.labels) [] (lines_of text)) image h in
    let (tail, e, next) = lines_shown 1 (label_address layout.labels) [] image (lines_of text) b in
    subst (λ (i : List ℕ). Shows (rows_from 1 0 i (lines_of text)) i) (sym e) (next 0)
