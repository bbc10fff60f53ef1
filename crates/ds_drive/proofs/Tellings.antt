-- Lines that go to a writer some at a time.
use Rattle.std.proofs.Common.{◌≡◌, append-nil, append_assoc, ℕ, zero, suc, ◌+◌, ◌-◌, ◌<◌, ◌≤◌, List, [], ◌∷◌, ◌++◌, length, take, drop, get_or, refl, sym, ◌∙◌, ap, subst, arith}
use Rattle.std.proofs.lemmas.List.{take_all}
use Rattle.std.specs.Prelude.{Option, Some, Result, Ok, Err, OnOk, codes, slice_get, slice_index_or}
use Rattle.std.specs.Io.KnownBytes.{Appends}
use Rattle.ds_asm.specs.declared.fault.SourceFault.{SourceFault}
use Rattle.ds_text.specs.Sent.{AppendsPart}
use Rattle.ds_text.proofs.Sends.{appends_both, appends_none, part_after, part_before}
use Rattle.ds_asm.specs.Assembling.{source_fault_line}
use Rattle.ds_source_reasons.specs.declared.fault.FaultyLines.{FaultyLines}
use Rattle.ds_source_reasons.specs.Told.{after_line, after_lines}
use Rattle.ds_drive.specs.declared.refused.FaultySource.{FaultySource}
use Rattle.ds_drive.specs.Told.{Passed, fault_shown, none_passed, others_told, pass, reason_after, source_shown, fault_line, told_lines}
use Rattle.ds_drive.specs.Inner.Told.{passed_in}

-- of a whole text so much was sent, and this is still to come
pub record SentOf (old new : Option (List ℕ)) (left whole : List ℕ) : Type 0 where
  pub sent : List ℕ
  pub appends : Appends old new sent
  pub all : sent ++ left ≡ whole

-- nothing was sent yet
pub none_sent : (known : Option (List ℕ)) (sheet whole : List ℕ) → sheet ≡ [] → SentOf known known (sheet ++ whole) whole
none_sent known sheet whole empty = record { sent = []; appends = appends_none known; all = ap (λ (xs : List ℕ). xs ++ whole) empty }

-- a line of what is to come stands on the sheet
pub line_added : (old new : Option (List ℕ)) (sheet text line left more whole : List ℕ) → left ≡ line ++ more → text ≡ sheet ++ line
    → SentOf old new (sheet ++ left) whole → SentOf old new (text ++ more) whole
line_added old new sheet text line left more whole is grown before = record {
  sent = before.sent;
  appends = before.appends;
  all = ap (λ (xs : List ℕ). before.sent ++ xs) (ap (λ (xs : List ℕ). xs ++ more) grown ∙ append_assoc sheet line more ∙ ap (λ (xs : List ℕ). sheet ++ xs) (sym is)) ∙ before.all;
}

-- the sheet was sent, and is empty
pub sheet_sent : (old now new : Option (List ℕ)) (text held sheet more whole : List ℕ) → SentOf old now (text ++ more) whole → held ≡ text → Appends now new held → sheet ≡ []
    → SentOf old new (sheet ++ more) whole
sheet_sent old now new text held sheet more whole before same more_sent empty = record {
  sent = before.sent ++ text;
  appends = appends_both old now new before.sent text before.appends (subst (Appends now new) same more_sent);
  all = ap (λ (xs : List ℕ). (before.sent ++ text) ++ (xs ++ more)) empty ∙ append_assoc before.sent text more ∙ before.all;
}

-- what was sent is a front
pub sent_front : (old new : Option (List ℕ)) (left whole : List ℕ) → SentOf old new left whole → AppendsPart old new whole
sent_front old new left whole before = record { part = before.sent; rest = left; whole = before.all; appends = before.appends }

-- and so with a front of the sheet
pub sent_part : (old now new : Option (List ℕ)) (text held more whole : List ℕ) → SentOf old now (text ++ more) whole → held ≡ text → AppendsPart now new held → AppendsPart old new whole
sent_part old now new text held more whole before same part =
    subst (AppendsPart old new) before.all (part_after old now new before.sent (text ++ more) before.appends (part_before now new text more (subst (AppendsPart now new) same part)))

-- with the sheet all was sent
pub sent_all : (old now new : Option (List ℕ)) (text held more whole : List ℕ) → SentOf old now (text ++ more) whole → held ≡ text → more ≡ [] → Appends now new held → Appends old new whole
sent_all old now new text held more whole before same none last =
    subst (Appends old new) (ap (λ (xs : List ℕ). before.sent ++ xs) (sym (append-nil text) ∙ ap (λ (xs : List ℕ). text ++ xs) (sym none)) ∙ before.all)
    (appends_both old now new before.sent text before.appends (subst (Appends now new) same last))

module _ (front place source : List ℕ) where
  -- the lines of the faults from a place on: that of the fault there, and those after it
  pub told_from : (p : Passed) (faults : List SourceFault) (i : ℕ) (d : SourceFault) → i < length faults
      → told_lines front place source p (drop i faults)
      ≡ fault_line front place source (reason_after p (get_or faults i d)) (get_or faults i d) ++ told_lines front place source (pass p (get_or faults i d)) (drop (suc i) faults)
  unfolding told_lines
  told_from p [] i d h = absurd (omega (arith, h))
  told_from p (f ∷ faults) zero d h = refl
  told_from p (f ∷ faults) (suc i) d h = told_from p faults i d (omega (arith, h))

  -- after the last there is none
  pub none_left : (p : Passed) (faults : List SourceFault) (i : ℕ) → length faults ≤ i → told_lines front place source p (drop i faults) ≡ []
  unfolding told_lines
  none_left p [] zero h = refl
  none_left p [] (suc i) h = refl
  none_left p (f ∷ faults) zero h = absurd (omega (arith, h))
  none_left p (f ∷ faults) (suc i) h = none_left p faults i (omega (arith, h))

  -- one fault more stands on the sheet
  pub one_told : (old new : Option (List ℕ)) (faults : List SourceFault) (i : ℕ) (d : SourceFault) (heads : List ℕ × List ℕ × List ℕ) (p later : Passed) (text sheet whole : List ℕ)
      → i < length faults → heads ≡ (front, place, source)
      → text ≡ sheet ++ fault_line heads.0 heads.1 heads.2 (reason_after p (get_or faults i d)) (get_or faults i d)
      → later ≡ pass p (get_or faults i d)
      → SentOf old new (sheet ++ told_lines front place source p (drop i faults)) whole
      → SentOf old new (text ++ told_lines front place source later (drop (i + 1) faults)) whole
  one_told old new faults i d heads p later text sheet whole within is told passed before =
      let next : suc i ≡ i + 1 = omega arith in
      let line = subst (λ (h : List ℕ × List ℕ × List ℕ). text ≡ sheet ++ fault_line h.0 h.1 h.2 (reason_after p (get_or faults i d)) (get_or faults i d)) is told in
      subst (λ (n : ℕ). SentOf old new (text ++ told_lines front place source later (drop n faults)) whole) next
      (subst (λ (q : Passed). SentOf old new (text ++ told_lines front place source q (drop (suc i) faults)) whole) (sym passed)
      (line_added old new sheet text _ _ _ whole (told_from p faults i d within) line before))

-- all that stand after the first
others_whole : (faults : List SourceFault) → take (length faults - 1) (drop 1 faults) ≡ drop 1 faults
others_whole [] = refl
others_whole (first ∷ others) = take_all (length (first ∷ others) - 1) others (omega arith)

-- the lines up to that of a first fault were passed
pub first_passed : (l old : FaultyLines) (text : List ℕ) (fault : SourceFault) → old.rest.now ≡ text → old.passed ≡ 0
    → l.rest.now ≡ after_line (after_lines (source_fault_line fault - old.passed - 1) old.rest.now) → l.passed ≡ source_fault_line fault
    → passed_in l ≡ pass (none_passed text) fault
first_passed l old text fault all none rest passed =
    ap (λ (n : ℕ). record { lines = n; rest = l.rest.now }) passed
    ∙ (ap (λ (r : List ℕ). record { lines = source_fault_line fault; rest = r }) rest
    ∙ (ap (λ (n : ℕ). record { lines = source_fault_line fault; rest = after_line (after_lines (source_fault_line fault - n - 1) old.rest.now) }) none
    ∙ ap (λ (r : List ℕ). record { lines = source_fault_line fault; rest = after_line (after_lines (source_fault_line fault - 0 - 1) r) }) all))

-- what is shown of the first fault of a source
pub first_shown : (source : Option FaultySource) (s : FaultySource) (text : List ℕ) (faults : List SourceFault) (first : SourceFault)
    → source ≡ Some s → text ≡ s.text.items → faults ≡ s.faults.items → Some first ≡ slice_get faults 0 → fault_shown text (Some first) ≡ source_shown source
first_shown source s text faults first is same all found =
    ap (λ (o : Option SourceFault). fault_shown text o) (found ∙ ap (λ (l : List SourceFault). slice_get l 0) all)
    ∙ (ap (λ (t : List ℕ). fault_shown t (slice_get s.faults.items 0)) same ∙ ap source_shown (sym is))

-- the lines of all that stand after the first
pub others_same : (text : List ℕ) (p : Passed) (faults : List SourceFault) (d : SourceFault) → 1 ≤ length faults → p ≡ pass (none_passed text) (slice_index_or faults 0 d)
    → told_lines (codes "and ") (codes "in line") text p (take (length faults - 1) (drop 1 faults)) ≡ others_told text faults
others_same text p [] d some is = absurd (omega (arith, some))
others_same text p (first ∷ others) d some is =
    ap (λ (l : List SourceFault). told_lines (codes "and ") (codes "in line") text p l) (others_whole (first ∷ others))
    ∙ ap (λ (q : Passed). told_lines (codes "and ") (codes "in line") text q others) is

-- no line of a source was passed yet
pub passed_none : (l : FaultyLines) (text : List ℕ) → l.rest.now ≡ text → l.passed ≡ 0 → passed_in l ≡ none_passed text
passed_none l text rest none =
    ap (λ (n : ℕ). record { lines = n; rest = l.rest.now }) none
    ∙ ap (λ (r : List ℕ). record { lines = 0; rest = r }) rest

-- the line of words that carry a name
pub line_carries : {T E : Type 0} (r : Result T E) (old new : Option (List ℕ)) (words name given : List ℕ) → given ≡ name
    → OnOk r (Appends old new (codes "dsmon: " ++ (words ++ ((given ++ []) ++ codes "\n")))) → OnOk r (Appends old new (codes "dsmon: " ++ ((words ++ name) ++ codes "\n")))
line_carries (Ok x) old new words name given same told =
    subst (Appends old new) (ap (λ (l : List ℕ). codes "dsmon: " ++ l) (ap (λ (l : List ℕ). words ++ (l ++ codes "\n")) (append-nil given ∙ same) ∙ sym (append_assoc words name (codes "\n")))) told
line_carries (Err e) old new words name given same told = tt
