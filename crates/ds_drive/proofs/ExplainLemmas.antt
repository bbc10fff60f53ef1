-- Why no log of a run of files is explained, and what it leaves; and what is told of the images.
use Rattle.std.proofs.Common.{◌≡◌, ◌⊎◌, inl, inr, ℕ, List, refl, subst}
use Rattle.std.specs.Prelude.{Option, Result}
use Rattle.std.specs.Io.KnownBytes.{Keeps}
use Rattle.clap.specs.Words.{Text}
use Rattle.ds_explain.specs.Explained.{WritesExplained, WritesExplainedPart}
use Rattle.ds_explain.specs.Inner.Explained.{ExplainEndsBy}
use Rattle.ds_explain.specs.declared.chosen.Chosen.{Chosen}
use Rattle.ds_log_reasons.specs.Sentences.{Context}
use Rattle.ds_pagemap.specs.Inputs.{Refusal, Sources}
use Rattle.ds_pagemap.specs.Machine.{State}
use Rattle.ds_policy.specs.Value.{PolicyValue}
use Rattle.ds_station.specs.Headline.{Begins, Refuses}
use Rattle.ds_station.specs.declared.fault.Fault.{Fault}
use Rattle.ds_station.specs.declared.fault.Fault.TheVariants as fault
use Rattle.ds_station.proofs.Headlines.{keeps_same}
use Rattle.ds_words.specs.declared.words.ExplainRequest.{ExplainRequest}
use Rattle.ds_words.specs.Words.{AsksForExplain}
use Rattle.ds_drive.specs.declared.failure.Failure.{Failure}
use Rattle.ds_drive.specs.declared.failure.Failure.TheVariants as failure
use Rattle.ds_drive.specs.Done.{IsCutShort, IsDone, IsStopped, Stream, stream}
use Rattle.ds_drive.specs.ExplainedLogs.{CutsExplained, ExplainStopsBy, HasExplained, OfTexts, chosen_by, log_context}
use Rattle.ds_drive.specs.Failures.{HoldsTexts, failure_number}
use Rattle.ds_drive.specs.Inner.Failures.{IsUnreadRun}
use Rattle.ds_drive.specs.Listening.{Listener, IsToldText}
use Rattle.ds_drive.specs.Noted.{images_of}
use Rattle.ds_drive.specs.Ran.{first_by}
use Rattle.ds_drive.specs.Statuses.{fault_status}
use Rattle.ds_drive.specs.Told.{failure_line}
use Rattle.ds_drive.proofs.HeldFiles.{of_held}
use Rattle.ds_drive.proofs.Stops.{unread_stops}

module _ (holds : List ℕ → List ℕ → Type 0) (lacks : List ℕ → Type 0) (request : ExplainRequest) where
  -- not all that the run is made of was read
  pub explain_unread : (f : Failure) (known : Option (List ℕ)) → IsUnreadRun f holds lacks request.run → ExplainStopsBy f holds lacks request known known
  explain_unread f known unread =
      inl (unread_stops holds lacks (λ refused read. Refuses refused read × Keeps known known) (λ process. ⊥) request.run f known (λ refused read r. (r, keeps_same known)) unread)

  -- want of memory before the run
  pub memory_stops : (known : Option (List ℕ)) → ExplainStopsBy (failure.Fault fault.Memory) holds lacks request known known
  memory_stops known = inl (inl (refl, keeps_same known))

-- what the words are taken from, with the images as they were made
abbrev pub lent_from : List ℕ → PolicyValue → Sources → List (List ℕ) → Context
lent_from text value sources images = record { text = text; pages = value.pages; rules = value.rules; sources = record { sources = sources; images = images } }

module _ (holds : List ℕ → List ℕ → Type 0) (request : ExplainRequest) (value : PolicyValue) (u text : List ℕ) (s t : Sources) (images : List (List ℕ)) (i j : List ℕ)
    (read : HoldsTexts holds request.run text value t j) (d : u ≡ text) (e : s ≡ t) (m : images ≡ images_of t) (f : i ≡ j) where
  -- what holds of what was lent holds of what was read
  pub of_lent : (P : Context → Result State Refusal → Type 0) → P (lent_from u value s images) (first_by value s i request.run) → OfTexts holds request.run P
  of_lent P so = record {
    text = text;
    value = value;
    sources = t;
    input = j;
    held = read;
    so =
        subst (λ (x : List ℕ). P (log_context text value t) (first_by value t x request.run)) f
        (subst (λ (x : Sources). P (log_context text value t) (first_by value x i request.run)) e
        (subst (λ (x : List (List ℕ)). P (lent_from text value t x) (first_by value s i request.run)) m
        (subst (λ (x : Sources). P (lent_from text value x images) (first_by value s i request.run)) e
        (subst (λ (x : List ℕ). P (lent_from x value s images) (first_by value s i request.run)) d so))));
  }

  -- what was lent was explained
  pub has_explained : (c : Chosen) (old new : Option (List ℕ)) → c ≡ chosen_by request.line → Begins (first_by value s i request.run) (WritesExplained (lent_from u value s images) c old new request.run.most_time) → HasExplained holds request old new
  has_explained c old new is so =
      subst (λ (x : Chosen). OfTexts holds request.run (λ from made. Begins made (WritesExplained from x old new request.run.most_time))) is
      (of_lent (λ from made. Begins made (WritesExplained from c old new request.run.most_time)) so)

  -- or a front of it is written
  cuts_explained : (c : Chosen) (old new : Option (List ℕ)) → c ≡ chosen_by request.line → Begins (first_by value s i request.run) (WritesExplainedPart (lent_from u value s images) c old new request.run.most_time) → CutsExplained holds request old new
  cuts_explained c old new is so =
      subst (λ (x : Chosen). OfTexts holds request.run (λ from made. Begins made (WritesExplainedPart from x old new request.run.most_time))) is
      (of_lent (λ from made. Begins made (WritesExplainedPart from c old new request.run.most_time)) so)

  -- the inputs were refused, or memory ran out
  lent_refused : (lacks : List ℕ → Type 0) (old new : Option (List ℕ)) (x : Fault) → Refuses x (first_by value s i request.run) × Keeps old new → ExplainStopsBy (failure.Fault x) holds lacks request old new
  lent_refused lacks old new x refused =
      inl (inr (of_held holds request.run (λ made. Refuses x made × Keeps old new) value s t i j (record { policy = text; read = read.read; held = read.held }) e f refused))

  -- a fault ended it
  pub explain_ends : (lacks : List ℕ → Type 0) (c : Chosen) (old new : Option (List ℕ)) (x : Fault) → c ≡ chosen_by request.line
      → ExplainEndsBy x (lent_from u value s images) c (first_by value s i request.run) old new request.run.most_time → ExplainStopsBy (failure.Fault x) holds lacks request old new
  explain_ends lacks c old new fault.WriteFault is cut = inr (cuts_explained c old new is cut)
  explain_ends lacks c old new x is refused = lent_refused lacks old new x refused

module _ (words : List Text) (holds : List ℕ → List ℕ → Type 0) (request : ExplainRequest) (old new : Option (List ℕ)) (asks : AsksForExplain words request) where
  leaves : (lacks : List ℕ → Type 0) (f : Failure) → ExplainStopsBy f holds lacks request old new → Keeps old new ⊎ CutsExplained holds request old new
  leaves lacks (failure.UnreadableFile name) (inl stops) = inl stops.1
  leaves lacks (failure.UnreadableSource name) (inl stops) = inl stops.1
  leaves lacks (failure.NoProcess process) (inl stops) = inl stops.1
  leaves lacks (failure.Fault x) (inl (inl memory)) = inl memory.1
  leaves lacks (failure.Fault x) (inl (inr refused)) = inl refused.so.1
  leaves lacks (failure.Fault fault.WriteFault) (inr cut) = inr cut
  leaves lacks f (inr none) = absurd none

  -- it was cut short
  pub explain_cut : (lacks : List ℕ → Type 0) (f : Failure) → ExplainStopsBy f holds lacks request old new → IsCutShort words holds old new
  explain_cut lacks f stops = elim (leaves lacks f stops) [
    | inl kept ↦ inl kept
    | inr cut ↦ inr (inr (inr (inr (inr (inr (inr (inr (request, asks, cut))))))))
  ]

  -- or stopped
  pub explain_stopped : (lacks : List ℕ → Type 0) (f : Failure) (status : ℕ) (err : Listener) → fault_status (failure_number f) ≡ status → ExplainStopsBy f holds lacks request old new → IsToldText err (failure_line f)
      → IsStopped status words holds lacks (stream old new) err
  explain_stopped lacks f status err has stops told =
      inr (inr (inr (inr (inr (inr (inr (request, asks, record { failure = f; has = has; so = stops; told = told })))))))

  -- or done
  pub explain_done : (input : Stream) (err : Listener) → HasExplained holds request old new → IsDone words holds input (stream old new) err
  explain_done input err so = inr (inr (inr (inr (inr (inr (inr (request, asks, so)))))))

-- with status 2 nothing is written
pub explain_unwritten : (holds : List ℕ → List ℕ → Type 0) (lacks : List ℕ → Type 0) (request : ExplainRequest) (f : Failure) (old new : Option (List ℕ)) → fault_status (failure_number f) ≡ 2 → ExplainStopsBy f holds lacks request old new → Keeps old new
explain_unwritten holds lacks request (failure.UnreadableFile name) old new two (inl stops) = stops.1
explain_unwritten holds lacks request (failure.UnreadableSource name) old new two (inl stops) = stops.1
explain_unwritten holds lacks request (failure.NoProcess process) old new two (inl stops) = stops.1
explain_unwritten holds lacks request (failure.Fault x) old new two (inl (inl memory)) = memory.1
explain_unwritten holds lacks request (failure.Fault x) old new two (inl (inr refused)) = refused.so.1
explain_unwritten holds lacks request (failure.Fault fault.WriteFault) old new two (inr cut) = absurd cc
explain_unwritten holds lacks request f old new two (inr none) = absurd none
