-- From one line of a source to the next, in both passes.
use Rattle.std.proofs.Common.{◌≡◌, inl, inr, ◌∙◌, ap, subst, refl, ℕ, ◌+◌, ◌≤◌, Bool, false, List, [], ◌∷◌, ◌++◌, length, length-drop, Result, Ok, Option, Some, is_some, arith, nat_lt, ◌==◌}
use Rattle.std.specs.List.{slice_split, position_or_len, before_first, after_first, onto_first}
use Rattle.std.proofs.lemmas.Bool.{cases_Bool, ltb-true, ltb-false}
use Rattle.std.proofs.lemmas.List.{drop_all, take_all}
use Rattle.std.proofs.lemmas.List.Splits.{slice_split_first}
use Rattle.ds_word.specs.ResultBinding.{◌>>=◌}
use Rattle.ds_asm.specs.declared.cause.Cause.{Cause}
use Rattle.ds_asm.specs.declared.cause.Stop.{Stop}
use Rattle.ds_asm.specs.declared.cause.Stop.TheVariants as stop
use Rattle.ds_asm.specs.declared.fault.AsmFault.{AsmFault}
use Rattle.ds_asm.specs.declared.fault.AsmFault.TheVariants as asm
use Rattle.ds_asm.specs.declared.fault.SourceFault.{SourceFault}
use Rattle.ds_asm.specs.declared.syntax.SyntaxCause.{SyntaxCause}
use Rattle.ds_asm.specs.Assembly.{at_line, without_empty_last, lines_of, origin, Labels, label_address, Layout, labelled, sized, laid_line, laid_lines, line_bytes, bytes_from}
use Rattle.ds_asm.specs.Inner.Assembling.{Fails, Refuses, stopped_at}
use Rattle.ds_asm.specs.Lines.{Line, line_of}

-- a list in which no element passes is one part
one_part : (p : ℕ → Bool) (xs : List ℕ) → length xs ≤ position_or_len p xs → slice_split p xs ≡ xs ∷ []
one_part p [] h = refl
one_part p (x ∷ xs) h = elim (cases_Bool (p x)) [
  | inl e ↦ absurd (let k = rw e at h in omega arith)
  | inr e ↦ let k = rw e at h in rw (e, one_part p xs (omega arith)) refl
]

-- a piece stays where another stands after it
keep_piece : (piece next : List ℕ) (rest : List (List ℕ)) → without_empty_last (piece ∷ next ∷ rest) ≡ piece ∷ without_empty_last (next ∷ rest)
keep_piece [] next rest = refl
keep_piece (b ∷ bs) next rest = refl

keep_onto : (piece : List ℕ) (x : ℕ) (parts : List (List ℕ)) → without_empty_last (piece ∷ onto_first x parts) ≡ piece ∷ without_empty_last (onto_first x parts)
keep_onto piece x [] = keep_piece piece (x ∷ []) []
keep_onto piece x (q ∷ qs) = keep_piece piece (x ∷ q) qs

-- the parts of a list are one at least
keep_split : (p : ℕ → Bool) (piece xs : List ℕ) → without_empty_last (piece ∷ slice_split p xs) ≡ piece ∷ without_empty_last (slice_split p xs)
keep_split p piece [] = keep_piece piece [] []
keep_split p piece (x ∷ xs) = elim (cases_Bool (p x)) [
  | inl e ↦ rw e (keep_piece piece [] (slice_split p xs))
  | inr e ↦ rw e (keep_onto piece x (slice_split p xs))
]

first_of : (p : ℕ → Bool) (x : ℕ) (xs : List ℕ) → without_empty_last (slice_split p (x ∷ xs)) ≡ before_first p (x ∷ xs) ∷ without_empty_last (slice_split p (after_first p (x ∷ xs)))
first_of p x xs = elim (cases_Bool (nat_lt (position_or_len p (x ∷ xs)) (length (x ∷ xs)))) [
  | inl found ↦ ap without_empty_last (slice_split_first p (x ∷ xs) 0 (ltb-true _ _ found)) ∙ keep_split p (before_first p (x ∷ xs)) (after_first p (x ∷ xs))
  | inr missed ↦
      let far : length (x ∷ xs) ≤ position_or_len p (x ∷ xs) = ltb-false _ _ missed in
      rw (one_part p (x ∷ xs) far, take_all (position_or_len p (x ∷ xs)) (x ∷ xs) far, drop_all (position_or_len p (x ∷ xs) + 1) (x ∷ xs) (omega arith)) refl
]

-- a text that isn't empty has its first line, and those of the text after it
pub lines_of-first : (text line after : List ℕ) → (length text == 0) ≡ false → line ≡ before_first (λ b. b == 10) text → after ≡ after_first (λ b. b == 10) text → lines_of text ≡ line ∷ lines_of after
lines_of-first [] line after h p q = cc
lines_of-first (x ∷ xs) line after h p q = rw (p, q) (first_of (λ b. b == 10) x xs)

-- what follows the first line is shorter
pub after_within : (n m : ℕ) (text after : List ℕ) → after ≡ after_first (λ b. b == 10) text → (length text == 0) ≡ false → n + length text ≤ m → n + 1 + length after ≤ m
after_within n m [] after q some within = cc
after_within n m (x ∷ xs) after q some within = rw q (omega (arith, length-drop (position_or_len (λ b. b == 10) (x ∷ xs) + 1) (x ∷ xs)))

-- a fault stays the fault, whatever would follow
pub fails_bind : {A B : Type 0} (e : AsmFault) (r : Result A SourceFault) (f : A → Result B SourceFault) → Fails e r → Fails e (r >>= f)
fails_bind (asm.Source fault) r f p = ap (λ x. x >>= f) p
fails_bind asm.Memory r f p = tt

-- what stops a line is a fault of the source
stops_source : {A B : Type 0} (e : Stop) (n : ℕ) (r : Result A Cause) (f : A → Result B SourceFault) → Refuses e r → Fails (stopped_at n e) (at_line n r >>= f)
stops_source (stop.Refused cause) n r f p = ap (λ x. at_line n x >>= f) p
stops_source stop.Memory n r f p = tt

-- The first pass.
pub layout_good : (n : ℕ) (m next : Layout) (text line after : List ℕ) → lines_of text ≡ line ∷ lines_of after → laid_line (line_of line) m ≡ Ok next
    → laid_lines n m (lines_of text) ≡ laid_lines (n + 1) next (lines_of after)
layout_good n m next text line after first said = ap (laid_lines n m) first ∙ ap (λ r. at_line n r >>= (λ more. laid_lines (n + 1) more (lines_of after))) said

pub layout_bad : (e : Stop) (n : ℕ) (m : Layout) (text line after : List ℕ) → lines_of text ≡ line ∷ lines_of after → Refuses e (laid_line (line_of line) m)
    → Fails (stopped_at n e) (laid_lines n m (lines_of text))
layout_bad e n m text line after first said = rw first (stops_source e n (laid_line (line_of line) m) (λ more. laid_lines (n + 1) more (lines_of after)) said)

pub layout_end : (n : ℕ) (m : Layout) (text : List ℕ) → length text ≡ 0 → laid_lines n m (lines_of text) ≡ Ok m
layout_end n m [] none = refl
layout_end n m (x ∷ xs) none = absurd (omega arith)

-- The second pass.
pub bytes_good : (n : ℕ) (find : List ℕ → Option ℕ) (bytes more text line after : List ℕ) → lines_of text ≡ line ∷ lines_of after → line_bytes find (length bytes) (line_of line) ≡ Ok more
    → bytes_from n find bytes (lines_of text) ≡ bytes_from (n + 1) find (bytes ++ more) (lines_of after)
bytes_good n find bytes more text line after first said = ap (bytes_from n find bytes) first ∙ ap (λ r. at_line n r >>= (λ m. bytes_from (n + 1) find (bytes ++ m) (lines_of after))) said

pub bytes_bad : (e : Stop) (n : ℕ) (find : List ℕ → Option ℕ) (bytes text line after : List ℕ) → lines_of text ≡ line ∷ lines_of after → Refuses e (line_bytes find (length bytes) (line_of line))
    → Fails (stopped_at n e) (bytes_from n find bytes (lines_of text))
bytes_bad e n find bytes text line after first said = rw first (stops_source e n (line_bytes find (length bytes) (line_of line)) (λ m. bytes_from (n + 1) find (bytes ++ m) (lines_of after)) said)

pub bytes_end : (n : ℕ) (find : List ℕ → Option ℕ) (bytes text : List ℕ) → length text ≡ 0 → bytes_from n find bytes (lines_of text) ≡ Ok bytes
bytes_end n find bytes [] none = refl
bytes_end n find bytes (x ∷ xs) none = absurd (omega arith)

-- a label that stands nowhere before is taken
pub labelled_new : (at : ℕ) (label : Option (List ℕ)) (name : List ℕ) (labels : Labels) → label ≡ Some name → is_some (label_address labels name) ≡ false → labelled at label labels ≡ Ok ((name, origin + at) ∷ labels)
labelled_new at label name labels p q = rw (p, q) refl

-- a line whose label and statement are good is
pub line_laid : (at after : ℕ) (x : Result Line SyntaxCause) (line : Line) (l : Layout) (labels : Labels) (size : ℕ) → x ≡ Ok line → at ≡ l.size → labelled at line.label l.labels ≡ Ok labels
    → after ≡ l.size → sized after line.statement ≡ Ok size → laid_line x l ≡ Ok (record { labels = labels; size = size })
line_laid at after x line l labels size p e q f r =
    let q2 = subst (λ (k : ℕ). labelled k line.label l.labels ≡ Ok labels) e q in
    let r2 = subst (λ (k : ℕ). sized k line.statement ≡ Ok size) f r in
    rw (p, q2, r2) refl
