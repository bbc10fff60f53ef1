-- What a check finds and writes, and what the program says where notes are taken for faults.
use Rattle.std.proofs.Common.{◌≡◌, ◌∙◌, ◌≤◌, ◌++◌, inl, inr, refl, ap, subst, ℕ, List, [], ◌∷◌, length, map, take, false}
use Rattle.std.specs.Prelude.{Option}
use Rattle.std.specs.List.{flat_map}
use Rattle.std.proofs.lemmas.List.{take_all}
use Rattle.std.specs.Io.KnownBytes.{Keeps}
use Rattle.clap.specs.Words.{Text}
use Rattle.ds_check.specs.Explained.{explained}
use Rattle.ds_drive.specs.AtFault.{plain}
use Rattle.ds_drive.specs.Inner.AtFault.{texts_seen}
use Rattle.ds_drive.specs.Checked.{AreGood, ChecksBy, HasNotes, are_faults, meaning_text, with_notes, with_ties}
use Rattle.ds_drive.specs.Done.{IsStopped, stream}
use Rattle.ds_drive.specs.Listening.{Listener, IsToldText}
use Rattle.ds_drive.specs.Noted.{image_of, images_of, notes_text, source_notes, starts_of}
use Rattle.ds_drive.specs.declared.failure.Failure.TheVariants as failure
use Rattle.ds_drive.specs.declared.refused.Refused.{Refused}
use Rattle.ds_drive.specs.declared.run.SourceText.{SourceText}
use Rattle.ds_text.specs.Sent.{AppendsPart}
use Rattle.ds_pagemap.specs.Inputs.{Sources}
use Rattle.ds_policy.specs.Value.{PolicyValue, InputValue}
use Rattle.ds_station.specs.declared.fault.Fault.TheVariants as fault
use Rattle.ds_ties.specs.Texts.{ties_text}
use Rattle.ds_words.specs.Words.{AsksForCheck}
use Rattle.ds_words.specs.declared.words.CheckRequest.{CheckRequest}

-- the notes were told, and nothing is written
pub check_noted : (words : List Text) (holds : List ℕ → List ℕ → Type 0) (lacks : List ℕ → Type 0) (status : ℕ) (old new : Option (List ℕ)) (err : Listener) (request : CheckRequest) (notes : List ℕ)
    → status ≡ 2 → AsksForCheck words request → HasNotes holds request notes → Keeps old new
    → IsToldText err notes → IsStopped status words holds lacks (stream old new) err
check_noted words holds lacks status old new err request notes has asks are kept told =
    inr (inr (inr (inl (request, asks, inr (record { has = has; notes = notes; are = are; kept = kept; told = told })))))

images_seen : (texts : List SourceText) → map (λ s. image_of s.text.items) texts ≡ images_of (texts_seen texts)
images_seen [] = refl
images_seen (s ∷ texts) = ap (λ (images : List (List ℕ)). image_of s.text.items ∷ images) (images_seen texts)

-- the images of all sources
pub images_all : (texts : List SourceText) (k : ℕ) (images : List (List ℕ)) → length texts ≤ k → images ≡ map (λ s. image_of s.text.items) (take k texts) → images ≡ images_of (texts_seen texts)
images_all texts k images end are = are ∙ (ap (map (λ (s : SourceText). image_of s.text.items)) (take_all k texts end) ∙ images_seen texts)

notes_seen : (texts : List SourceText) → flat_map (λ (s : SourceText). source_notes s.name s.text.items) texts ≡ flat_map (λ (s : List ℕ × List ℕ). source_notes s.0 s.1) (texts_seen texts)
notes_seen [] = refl
notes_seen (s ∷ texts) = ap (λ (notes : List ℕ). source_notes s.name s.text.items ++ notes) (notes_seen texts)

-- the notes on all sources
pub notes_all : (texts : List SourceText) (k : ℕ) (notes : List ℕ) → length texts ≤ k → notes ≡ flat_map (λ (s : SourceText). source_notes s.name s.text.items) (take k texts)
    → notes ≡ flat_map (λ (s : List ℕ × List ℕ). source_notes s.0 s.1) (texts_seen texts)
notes_all texts k notes end are = are ∙ (ap (flat_map (λ (s : SourceText). source_notes s.name s.text.items)) (take_all k texts end) ∙ notes_seen texts)

-- the writer failed before all was written
pub check_cut_off : (holds : List ℕ → List ℕ → Type 0) (lacks : List ℕ → Type 0) (request : CheckRequest) (value : PolicyValue) (sources : Sources) (input : List ℕ) (events : InputValue) (r : Refused) (notes starts ties told text : List ℕ) (old new : Option (List ℕ))
    → AreGood holds request value sources input events → notes ≡ notes_text value sources events → starts ≡ starts_of value sources → ties ≡ ties_text value events → told ≡ explained value input events
    → are_faults request notes ≡ false → r ≡ plain (failure.Fault fault.WriteFault)
    → text ≡ with_notes (told ++ with_ties starts ties) notes → AppendsPart old new text
    → ChecksBy r holds lacks request old new
check_cut_off holds lacks request value sources input events r notes starts ties told text old new good notes_are starts_are ties_are told_is none is whole part =
    let all = whole
    ∙ (ap (λ (t : List ℕ). with_notes (t ++ with_ties starts ties) notes) told_is
    ∙ (ap (λ (s : List ℕ). with_notes (explained value input events ++ with_ties s ties) notes) starts_are
    ∙ (ap (λ (t : List ℕ). with_notes (explained value input events ++ with_ties (starts_of value sources) t) notes) ties_are
    ∙ ap (with_notes (meaning_text value sources input events)) notes_are))) in
    inr (
      is,
      record {
        value = value;
        sources = sources;
        input = input;
        events = events;
        good = good;
        so = (subst (λ (n : List ℕ). are_faults request n ≡ false) notes_are none, subst (AppendsPart old new) all part);
      },
    )
