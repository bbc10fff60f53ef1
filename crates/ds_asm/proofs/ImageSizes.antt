-- The two passes agree: the second has as many bytes as the first has counted, and labels that are
-- looked up alike give the same bytes.
use Rattle.std.proofs.Common.{◌≡◌, inl, inr, ◌∙◌, sym, ap, refl, ℕ, ◌+◌, ◌%◌, ◌^◌, ◌≤◌, List, [], ◌∷◌, ◌++◌, length, length-append, replicate, Option, Some, None, Result, Ok, Err, arith, nat_lt}
use Rattle.std.proofs.lemmas.Bool.{cases_Bool, ltb-false}
use Rattle.std.proofs.lemmas.List.{length-replicate}
use Rattle.ds_word.proofs.ResultBinding.{bind_ok}
use Rattle.ds_word.specs.Bytes.{bytes_of_word}
use Rattle.ds_word.specs.ResultBinding.{◌>>=◌}
use Rattle.ds_asm.specs.Numbers.{as_word}
use Rattle.ds_asm.specs.Operands.{Instruction, TargetLabel, Nowhere, BranchTo, JumpTo}
use Rattle.ds_asm.specs.Lines.{Statement, Encoded, WordNumber, WordLabel, Byte, Space, Line, line_of}
use Rattle.ds_asm.specs.declared.cause.Cause.{Cause}
use Rattle.ds_asm.specs.declared.fault.SourceFault.{SourceFault}
use Rattle.ds_asm.specs.declared.syntax.SyntaxCause.{SyntaxCause}
use Rattle.ds_asm.specs.Faults.{optional_size, size_in}
use Rattle.ds_asm.specs.Assembly.{at_line, origin, most_bytes, statement_size, cause_at, Layout, labelled, sized_by, sized, laid_line, laid_lines, resolved, known, word_bytes, statement_bytes, optional_bytes, line_bytes, bytes_from, label_address, empty_layout, lines_of, assembled}

word_length : (r : Result ℕ Cause) (more : List ℕ) → word_bytes r ≡ Ok more → length more ≡ 4
word_length (Ok w) more h = let same : bytes_of_word w ≡ more = cc in sym (ap length same)
word_length (Err e) more h = cc

-- a statement's bytes are as many as its size
pub statement_length : (find : List ℕ → Option ℕ) (at : ℕ) (s : Statement) (more : List ℕ) → statement_bytes find at s ≡ Ok more → length more ≡ statement_size s
statement_length find at (Encoded i) more h = word_length (resolved find (origin + at + 4) i i.target) more h
statement_length find at (WordNumber x) more h = word_length (Ok (as_word x)) more h
statement_length find at (WordLabel name) more h = word_length (known (find name)) more h
statement_length find at (Byte x) more h = let same : (as_word x % 2 ^ 8) ∷ [] ≡ more = cc in sym (ap length same)
statement_length find at (Space x) more h = let same : replicate x.magnitude 0 ≡ more = cc in sym (ap length same) ∙ length-replicate x.magnitude 0

-- a line that stops no pass is good
pub line_good : {A : Type 0} (n : ℕ) (r : Result A Cause) {x : A} → at_line n r ≡ Ok x → r ≡ Ok x
line_good n (Ok y) {x} h = let same : y ≡ x = cc in ap (λ z. Ok z) same
line_good n (Err cause) h = cc

-- a statement that is let in makes the image longer by its size, and no longer than it may be
sized_more : (o : Option Cause) (grown size : ℕ) → sized_by grown o ≡ Ok size → (size ≡ grown) × (size ≤ 65536)
sized_more (Some cause) grown size h = cc
sized_more None grown size h = elim (cases_Bool (nat_lt most_bytes grown)) [
  | inl long ↦ let k = rw long at h in cc
  | inr short ↦ let k = rw short at h in
      let same : grown ≡ size = cc in
      let room : grown ≤ most_bytes = ltb-false _ _ short in
      (sym same, omega arith)
]

-- a line that is let in makes the image longer by its size
optional_more : (at : ℕ) (s : Option Statement) (size : ℕ) → at ≤ 65536 → sized at s ≡ Ok size → (size ≡ at + optional_size s) × (size ≤ 65536)
optional_more at None size few h = let same : at ≡ size = cc in (omega arith, omega arith)
optional_more at (Some s) size few h = sized_more (cause_at at s) (at + statement_size s) size h

pub laid_size : (m next : Layout) (x : Result Line SyntaxCause) → m.size ≤ 65536 → laid_line x m ≡ Ok next → (next.size ≡ m.size + size_in x) × (next.size ≤ 65536)
laid_size m next (Err cause) few h = cc
laid_size m next (Ok line) few h =
    let (labels, a, b) = bind_ok (labelled m.size line.label m.labels) _ next h in
    let (size, c, d) = bind_ok (sized m.size line.statement) (λ size. Ok (record { labels = labels; size = size })) next b in
    let same : size ≡ next.size = (let e : record { labels = labels; size = size } ≡ next = cc in ap (λ (l : Layout). l.size) e) in
    let (grown, room) = optional_more m.size line.statement size few c in
    (omega arith, omega arith)

-- and its bytes are as many
optional_length : (find : List ℕ → Option ℕ) (at : ℕ) (s : Option Statement) (more : List ℕ) → optional_bytes find at s ≡ Ok more → length more ≡ optional_size s
optional_length find at None more h = let e : [] ≡ more = cc in sym (ap (λ (xs : List ℕ). length xs) e)
optional_length find at (Some s) more h = statement_length find at s more h

pub line_length : (find : List ℕ → Option ℕ) (at : ℕ) (x : Result Line SyntaxCause) (more : List ℕ) → line_bytes find at x ≡ Ok more → length more ≡ size_in x
line_length find at (Err cause) more h = let e : [] ≡ more = cc in sym (ap (λ (xs : List ℕ). length xs) e)
line_length find at (Ok line) more h = optional_length find at line.statement more h

pub bytes_fit : (n : ℕ) (find : List ℕ → Option ℕ) (m last : Layout) (bytes out : List ℕ) (lines : List (List ℕ)) → length bytes ≡ m.size → m.size ≤ 65536
    → laid_lines n m lines ≡ Ok last → bytes_from n find bytes lines ≡ Ok out → length out ≤ 65536
bytes_fit n find m last bytes out [] same few h k = let e : bytes ≡ out = cc in let l : length bytes ≡ length out = ap (λ (xs : List ℕ). length xs) e in omega arith
bytes_fit n find m last bytes out (line ∷ lines) same few h k =
    let (next, a, b) = bind_ok (at_line n (laid_line (line_of line) m)) (λ more. laid_lines (n + 1) more lines) last h in
    let (more, c, d) = bind_ok (at_line n (line_bytes find (length bytes) (line_of line))) (λ more. bytes_from (n + 1) find (bytes ++ more) lines) out k in
    let (grown, room) = laid_size m next (line_of line) few (line_good n _ a) in
    let long = line_length find (length bytes) (line_of line) more (line_good n _ c) in
    bytes_fit (n + 1) find next last (bytes ++ more) out lines (omega (arith, length-append bytes more)) room b d

-- Labels that are looked up alike.
module _ (f g : List ℕ → Option ℕ) (alike : (name : List ℕ) → f name ≡ g name) where
  resolved_alike : (slot : ℕ) (i : Instruction) (t : TargetLabel) → resolved f slot i t ≡ resolved g slot i t
  resolved_alike slot i Nowhere = refl
  resolved_alike slot i (BranchTo name) = rw (alike name) refl
  resolved_alike slot i (JumpTo name) = rw (alike name) refl

  statement_alike : (at : ℕ) (s : Statement) → statement_bytes f at s ≡ statement_bytes g at s
  statement_alike at (Encoded i) = ap word_bytes (resolved_alike (origin + at + 4) i i.target)
  statement_alike at (WordNumber x) = refl
  statement_alike at (WordLabel name) = rw (alike name) refl
  statement_alike at (Byte x) = refl
  statement_alike at (Space x) = refl

  optional_alike : (at : ℕ) (s : Option Statement) → optional_bytes f at s ≡ optional_bytes g at s
  optional_alike at None = refl
  optional_alike at (Some s) = statement_alike at s

  pub line_alike : (at : ℕ) (x : Result Line SyntaxCause) → line_bytes f at x ≡ line_bytes g at x
  line_alike at (Err cause) = refl
  line_alike at (Ok line) = optional_alike at line.statement

  through_ok : {A B : Type 0} (r : Result A SourceFault) (p q : A → Result B SourceFault) → ((x : A) → p x ≡ q x) → (r >>= p) ≡ (r >>= q)
  through_ok (Ok x) p q h = h x
  through_ok (Err e) p q h = refl

  pub bytes_alike : (n : ℕ) (bytes : List ℕ) (lines : List (List ℕ)) → bytes_from n f bytes lines ≡ bytes_from n g bytes lines
  bytes_alike n bytes [] = refl
  bytes_alike n bytes (line ∷ lines) =
      ap (λ r. at_line n r >>= (λ more. bytes_from (n + 1) f (bytes ++ more) lines)) (line_alike (length bytes) (line_of line))
      ∙ through_ok (at_line n (line_bytes g (length bytes) (line_of line))) _ _ (λ more. bytes_alike (n + 1) (bytes ++ more) lines)

-- what a source says once its labels are held
pub assembled_by : (text : List ℕ) (l : Layout) (find : List ℕ → Option ℕ) → laid_lines 1 empty_layout (lines_of text) ≡ Ok l → ((name : List ℕ) → find name ≡ label_address l.labels name)
    → assembled text ≡ bytes_from 1 find [] (lines_of text)
assembled_by text l find said alike =
    ap (λ r. r >>= (λ layout. bytes_from 1 (label_address layout.labels) [] (lines_of text))) said
    ∙ bytes_alike (label_address l.labels) find (λ name. sym (alike name)) 1 [] (lines_of text)
