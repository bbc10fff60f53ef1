-- All faults of a source: a line at a time, and which is first.
use Rattle.std.proofs.Common.{◌≡◌, ◌∙◌, sym, ap, subst, refl, ℕ, ◌+◌, List, [], ◌∷◌, ◌++◌, length, length-append, append_assoc, Option, Result, Ok, Err, arith}
use Rattle.ds_word.proofs.ResultBinding.{bind_ok}
use Rattle.ds_word.specs.ResultBinding.{◌>>=◌}
use Rattle.ds_asm.specs.Lines.{Line, line_of}
use Rattle.ds_asm.specs.declared.cause.Cause.{Cause}
use Rattle.ds_asm.specs.declared.fault.SourceFault.{SourceFault}
use Rattle.ds_asm.specs.declared.syntax.SyntaxCause.{SyntaxCause}
use Rattle.ds_asm.specs.Assembly.{fault_at, at_line, Labels, Layout, empty_layout, label_address, laid_line, laid_lines, line_bytes, bytes_from, lines_of, assembled}
use Rattle.ds_asm.specs.Faults.{size_in, fault_in, labels_past, layout_past, first_faults, second_faults, faults_by, all_faults}
use Rattle.ds_asm.specs.Inner.Faults.{BeginsWith}
use Rattle.ds_asm.proofs.ImageSizes.{line_good, line_length}

-- One line more.
pub one_more : (xs more tail rest whole : List SourceFault) → rest ≡ more ++ tail → xs ++ rest ≡ whole → (xs ++ more) ++ tail ≡ whole
one_more xs more tail rest whole e h = append_assoc xs more tail ∙ (ap (λ ys. xs ++ ys) (sym e) ∙ h)

pub first_good : (n : ℕ) (m next : Layout) (text line after : List ℕ) → lines_of text ≡ line ∷ lines_of after → laid_line (line_of line) m ≡ Ok next
    → first_faults n m (lines_of text) ≡ first_faults (n + 1) next (lines_of after)
first_good n m next text line after first said =
    ap (first_faults n m) first
    ∙ ap (λ r. fault_in n r ++ first_faults (n + 1) (layout_past r (labels_past (line_of line) m)) (lines_of after)) said

pub first_bad : (n : ℕ) (m : Layout) (cause : Cause) (text line after : List ℕ) → lines_of text ≡ line ∷ lines_of after → laid_line (line_of line) m ≡ Err cause
    → first_faults n m (lines_of text) ≡ fault_at n cause ∷ [] ++ first_faults (n + 1) (record { labels = labels_past (line_of line) m; size = 0 }) (lines_of after)
first_bad n m cause text line after first said =
    ap (first_faults n m) first
    ∙ ap (λ r. fault_in n r ++ first_faults (n + 1) (layout_past r (labels_past (line_of line) m)) (lines_of after)) said

pub first_end : (n : ℕ) (m : Layout) (text : List ℕ) → length text ≡ 0 → first_faults n m (lines_of text) ≡ []
first_end n m [] none = refl
first_end n m (x ∷ xs) none = absurd (omega arith)

pub second_step : (n : ℕ) (find : List ℕ → Option ℕ) (at : ℕ) (text line after : List ℕ) → lines_of text ≡ line ∷ lines_of after
    → second_faults n find at (lines_of text) ≡ fault_in n (line_bytes find at (line_of line)) ++ second_faults (n + 1) find (at + size_in (line_of line)) (lines_of after)
second_step n find at text line after first = ap (second_faults n find at) first

pub second_end : (n : ℕ) (find : List ℕ → Option ℕ) (at : ℕ) (text : List ℕ) → length text ≡ 0 → second_faults n find at (lines_of text) ≡ []
second_end n find at [] none = refl
second_end n find at (x ∷ xs) none = absurd (omega arith)

-- Which fault is first.
first_by : (n : ℕ) (r : Result Layout Cause) (labels : Labels) (lines : List (List ℕ)) (fault : SourceFault)
    → ((next : Layout) → laid_lines (n + 1) next lines ≡ Err fault → BeginsWith fault (first_faults (n + 1) next lines))
    → (at_line n r >>= (λ more. laid_lines (n + 1) more lines)) ≡ Err fault
    → BeginsWith fault (fault_in n r ++ first_faults (n + 1) (layout_past r labels) lines)
first_by n (Ok next) labels lines fault more h = more next h
first_by n (Err cause) labels lines fault more h =
    let same : fault_at n cause ≡ fault = cc in
    (first_faults (n + 1) (record { labels = labels; size = 0 }) lines, ap (λ x. x ∷ first_faults (n + 1) (record { labels = labels; size = 0 }) lines) same)

first_told : (n : ℕ) (l : Layout) (lines : List (List ℕ)) (fault : SourceFault) → laid_lines n l lines ≡ Err fault → BeginsWith fault (first_faults n l lines)
first_told n l [] fault h = cc
first_told n l (line ∷ lines) fault h = first_by n (laid_line (line_of line) l) (labels_past (line_of line) l) lines fault (λ next k. first_told (n + 1) next lines fault k) h

-- a source that the first pass lets in has none there
pub first_none : (n : ℕ) (l last : Layout) (lines : List (List ℕ)) → laid_lines n l lines ≡ Ok last → first_faults n l lines ≡ []
first_none n l last [] h = refl
first_none n l last (line ∷ lines) h =
    let (next, a, b) = bind_ok (at_line n (laid_line (line_of line) l)) (λ more. laid_lines (n + 1) more lines) last h in
    ap (λ r. fault_in n r ++ first_faults (n + 1) (layout_past r (labels_past (line_of line) l)) lines) (line_good n _ a)
    ∙ first_none (n + 1) next last lines b

pub no_fault : (faults : List SourceFault) → length faults ≡ 0 → faults ≡ []
no_fault [] h = refl
no_fault (x ∷ xs) h = absurd (omega arith)

-- a list is not empty after one more
pub none_with : (xs : List SourceFault) (x : SourceFault) → xs ++ (x ∷ []) ≡ [] → ⊥
none_with [] x h = cc
none_with (y ∷ ys) x h = cc

second_by : (n at : ℕ) (find : List ℕ → Option ℕ) (r : Result (List ℕ) Cause) (size : ℕ) (bytes : List ℕ) (lines : List (List ℕ)) (fault : SourceFault)
    → ((more : List ℕ) → r ≡ Ok more → bytes_from (n + 1) find (bytes ++ more) lines ≡ Err fault → BeginsWith fault (second_faults (n + 1) find (at + size) lines))
    → (at_line n r >>= (λ more. bytes_from (n + 1) find (bytes ++ more) lines)) ≡ Err fault
    → BeginsWith fault (fault_in n r ++ second_faults (n + 1) find (at + size) lines)
second_by n at find (Ok more) size bytes lines fault next h = next more refl h
second_by n at find (Err cause) size bytes lines fault next h =
    let same : fault_at n cause ≡ fault = cc in
    (second_faults (n + 1) find (at + size) lines, ap (λ x. x ∷ second_faults (n + 1) find (at + size) lines) same)

second_told : (n at : ℕ) (find : List ℕ → Option ℕ) (bytes : List ℕ) (lines : List (List ℕ)) (fault : SourceFault) → length bytes ≡ at → bytes_from n find bytes lines ≡ Err fault
    → BeginsWith fault (second_faults n find at lines)
second_told n at find bytes [] fault size h = cc
second_told n at find bytes (line ∷ lines) fault size h =
    let k = subst (λ (p : ℕ). (at_line n (line_bytes find p (line_of line)) >>= (λ more. bytes_from (n + 1) find (bytes ++ more) lines)) ≡ Err fault) size h in
    second_by n at find (line_bytes find at (line_of line)) (size_in (line_of line)) bytes lines fault
    (λ more is j. let long = line_length find at (line_of line) more is in
    second_told (n + 1) (at + size_in (line_of line)) find (bytes ++ more) lines fault (omega (arith, length-append bytes more)) j) k

-- a source that is good has none
second_none : (n at : ℕ) (find : List ℕ → Option ℕ) (bytes out : List ℕ) (lines : List (List ℕ)) → length bytes ≡ at → bytes_from n find bytes lines ≡ Ok out → second_faults n find at lines ≡ []
second_none n at find bytes out [] size h = refl
second_none n at find bytes out (line ∷ lines) size h =
    let (more, a, b) = bind_ok (at_line n (line_bytes find (length bytes) (line_of line))) (λ more. bytes_from (n + 1) find (bytes ++ more) lines) out h in
    let good : line_bytes find at (line_of line) ≡ Ok more = subst (λ (p : ℕ). line_bytes find p (line_of line) ≡ Ok more) size (line_good n _ a) in
    let long = line_length find at (line_of line) more good in
    ap (λ r. fault_in n r ++ second_faults (n + 1) find (at + size_in (line_of line)) lines) good
    ∙ second_none (n + 1) (at + size_in (line_of line)) find (bytes ++ more) out lines (omega (arith, length-append bytes more)) b

faults_first : (r : Result Layout SourceFault) (lines : List (List ℕ)) (fault : SourceFault) → laid_lines 1 empty_layout lines ≡ r
    → (r >>= (λ layout. bytes_from 1 (label_address layout.labels) [] lines)) ≡ Err fault → BeginsWith fault (faults_by r lines)
faults_first (Ok layout) lines fault is h = second_told 1 0 (label_address layout.labels) [] lines fault refl h
faults_first (Err e) lines fault is h = let same : e ≡ fault = cc in first_told 1 empty_layout lines fault (is ∙ ap (λ x. Err x) same)

faults_none : (r : Result Layout SourceFault) (lines : List (List ℕ)) (image : List ℕ)
    → (r >>= (λ layout. bytes_from 1 (label_address layout.labels) [] lines)) ≡ Ok image → faults_by r lines ≡ []
faults_none (Ok layout) lines image h = second_none 1 0 (label_address layout.labels) [] image lines refl h
faults_none (Err e) lines image h = cc

-- the first of all faults is that of the source
pub first_of_all : (text : List ℕ) (faults : List SourceFault) (fault : SourceFault) → faults ≡ all_faults text → assembled text ≡ Err fault → BeginsWith fault faults
first_of_all text faults fault all h = subst (BeginsWith fault) (sym all) (faults_first (laid_lines 1 empty_layout (lines_of text)) (lines_of text) fault refl h)

pub none_of_all : (text : List ℕ) (faults : List SourceFault) (image : List ℕ) → faults ≡ all_faults text → assembled text ≡ Ok image → faults ≡ []
none_of_all text faults image all h = all ∙ faults_none (laid_lines 1 empty_layout (lines_of text)) (lines_of text) image h

-- a source with faults in the first pass has that fault, and these are all
refused_by : (r : Result Layout SourceFault) (lines : List (List ℕ)) (faults : List SourceFault) → laid_lines 1 empty_layout lines ≡ r → faults ≡ first_faults 1 empty_layout lines → (faults ≡ [] → ⊥)
    → (fault : SourceFault) × ((r >>= (λ layout. bytes_from 1 (label_address layout.labels) [] lines)) ≡ Err fault) × (faults ≡ faults_by r lines)
refused_by (Ok l) lines faults is all some = absurd (some (all ∙ first_none 1 empty_layout l lines is))
refused_by (Err e) lines faults is all some = (e, refl, all)

pub refused_first : (text : List ℕ) (faults : List SourceFault) → faults ≡ first_faults 1 empty_layout (lines_of text) → (faults ≡ [] → ⊥)
    → (fault : SourceFault) × (assembled text ≡ Err fault) × (faults ≡ all_faults text)
refused_first text faults all some = refused_by (laid_lines 1 empty_layout (lines_of text)) (lines_of text) faults refl all some

-- labels that are looked up alike give the same faults
module _ (f g : List ℕ → Option ℕ) (alike : (at : ℕ) (x : Result Line SyntaxCause) → line_bytes f at x ≡ line_bytes g at x) where
  pub second_alike : (n at : ℕ) (lines : List (List ℕ)) → second_faults n f at lines ≡ second_faults n g at lines
  second_alike n at [] = refl
  second_alike n at (line ∷ lines) =
      ap (λ r. fault_in n r ++ second_faults (n + 1) f (at + size_in (line_of line)) lines) (alike at (line_of line))
      ∙ ap (λ more. fault_in n (line_bytes g at (line_of line)) ++ more) (second_alike (n + 1) (at + size_in (line_of line)) lines)
