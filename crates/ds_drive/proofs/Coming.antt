-- What the program says by what a run came to.
use Rattle.std.proofs.Common.{◌≡◌, ◌∙◌, ◌⊎◌, inl, inr, ℕ, ◌≤◌, Bool, false, List, [], ◌++◌, arith, refl, sym, ap}
use Rattle.std.specs.Prelude.{Option, Some, None}
use Rattle.clap.specs.Words.{Text}
use Rattle.ds_text.proofs.Sends.{appends_both}
use Rattle.ds_pagemap.specs.Text.{state_text}
use Rattle.ds_refinement.specs.Held.{Held}
use Rattle.ds_station.specs.declared.outcome.Unended.{Unended}
use Rattle.ds_station.specs.declared.pieces.Extent.TheVariants.{Whole}
use Rattle.ds_words.specs.Windows.{windows_in}
use Rattle.ds_words.specs.Words.{AsksForRun, AsksForTrace}
use Rattle.ds_words.specs.declared.words.RunRequest.{RunRequest}
use Rattle.ds_words.specs.declared.words.TraceRequest.{TraceRequest}
use Rattle.ds_drive.specs.declared.outcome.Came.{Came}
use Rattle.ds_drive.specs.declared.outcome.Came.TheVariants as came
use Rattle.ds_drive.specs.declared.outcome.Outcome.{Outcome}
use Rattle.ds_drive.specs.Done.{IsCutShort, IsDone, IsTooMuch, IsUnended, Stream, stream}
use Rattle.ds_drive.specs.Failures.{CutsFiles}
use Rattle.ds_drive.specs.Listening.{Listener, IsToldText}
use Rattle.ds_drive.specs.Outcomes.{came_of, end_told, unmet, where_asked}
use Rattle.ds_drive.specs.Inner.Outcomes.{came_status}
use Rattle.ds_drive.specs.Ran.{HasLeftFiles, HasRunFiles, HasTracedFiles}
use Rattle.ds_drive.specs.Windows.{windows_text}
use Rattle.ds_drive.proofs.Heard.{whole_part}

-- The statuses.

pub few_statuses : (c : Came) → came_status c ≤ 4
few_statuses came.Done = omega arith
few_statuses came.Unended = omega arith
few_statuses came.TooMuch = omega arith

pub never_one : (c : Came) → came_status c ≡ 1 → ⊥
never_one came.Done is = absurd cc
never_one came.Unended is = absurd cc
never_one came.TooMuch is = absurd cc

pub never_two : (c : Came) → came_status c ≡ 2 → ⊥
never_two came.Done is = absurd cc
never_two came.Unended is = absurd cc
never_two came.TooMuch is = absurd cc

done_by : (c : Came) → came_status c ≡ 0 → c ≡ came.Done
done_by came.Done is = refl
done_by came.Unended is = absurd cc
done_by came.TooMuch is = absurd cc

unended_by : (c : Came) → came_status c ≡ 4 → c ≡ came.Unended
unended_by came.Done is = absurd cc
unended_by came.Unended is = refl
unended_by came.TooMuch is = absurd cc

much_by : (c : Came) → came_status c ≡ 3 → c ≡ came.TooMuch
much_by came.Done is = absurd cc
much_by came.Unended is = absurd cc
much_by came.TooMuch is = refl

-- a run that has ended was not left
never_much : (u : Option Unended) → came_of Whole u ≡ came.TooMuch → ⊥
never_much None is = absurd cc
never_much (Some u) is = absurd cc

-- of a run that is done nothing is told but its summary
nothing_unmet : (u : Option Unended) (h : Held) → came.Done ≡ came_of Whole u → end_told Whole h u ≡ []
nothing_unmet None h is = refl
nothing_unmet (Some u) h is = absurd cc

no_summary : (wanted : Bool) (text : List ℕ) → wanted ≡ false → where_asked wanted text ≡ []
no_summary wanted text none = ap (λ b. where_asked b text) none

module _ (words : List Text) (holds : List ℕ → List ℕ → Type 0) (o : Outcome) (old new : Option (List ℕ)) where
  module _ (request : RunRequest) where
    run_never_much : HasRunFiles holds request o old new → o.came ≡ came.TooMuch → ⊥
    run_never_much r is = never_much _ (sym r.so.ended.ends.2.followed.came ∙ is)

    left_is_much : HasLeftFiles holds request o old new → o.came ≡ came.TooMuch
    left_is_much r = r.so.left.leaves.2.followed.came

    -- what was written of a run that was left
    left_cut : HasLeftFiles holds request o old new → CutsFiles holds request old new
    left_cut r =
        let b = r.so.left.leaves in
        let l = b.2 in
        record {
          policy = r.policy;
          sources = r.sources;
          input = r.input;
          held = r.held;
          so = (
            b.0,
            b.1,
            record {
              last = l.last;
              prefix = record { reached = l.reached; whole = l.whole };
              written = whole_part old new _ (appends_both old r.so.between new (state_text l.last) (windows_text l.last (windows_in request.extras.memory)) l.written l.followed.memory);
            },
          );
        }

    module _ (asks : AsksForRun words request) (came_to : HasRunFiles holds request o old new ⊎ HasLeftFiles holds request o old new) where
      pub run_cut_by : came_status o.came ≡ 3 → IsCutShort words holds old new
      run_cut_by three = elim came_to [
        | inl r ↦ absurd (run_never_much r (much_by o.came three))
        | inr r ↦ inr (inr (inl (request, asks, left_cut r)))
      ]

      -- nothing is told of it, where no summary is wanted
      pub run_untold : request.extras.summary ≡ false → came_status o.came ≡ 0 → o.told.items ≡ []
      run_untold none zero = elim came_to [
        | inl r ↦ let e = r.so.ended.ends.2 in
            e.followed.told ∙ (ap (λ (s : List ℕ). s ++ end_told Whole e.station (unmet request.extras e.last)) (no_summary request.extras.summary _ none) ∙ nothing_unmet (unmet request.extras e.last) e.station (sym (done_by o.came zero) ∙ e.followed.came))
        | inr r ↦ absurd (let no : came.Done ≡ came.TooMuch = sym (done_by o.came zero) ∙ left_is_much r in cc)
      ]

      module _ (err : Listener) (told : IsToldText err o.told.items) where
        pub run_done : (input : Stream) → came_status o.came ≡ 0 → IsDone words holds input (stream old new) err
        run_done input zero = elim came_to [
          | inl r ↦ inr (inl (request, asks, record { outcome = o; is = done_by o.came zero; so = r; told = told }))
          | inr r ↦ absurd (let no : came.Done ≡ came.TooMuch = sym (done_by o.came zero) ∙ left_is_much r in cc)
        ]

        pub run_unended : came_status o.came ≡ 4 → IsUnended words holds (stream old new) err
        run_unended four = elim came_to [
          | inl r ↦ inl (request, asks, record { outcome = o; is = unended_by o.came four; so = r; told = told })
          | inr r ↦ absurd (let no : came.Unended ≡ came.TooMuch = sym (unended_by o.came four) ∙ left_is_much r in cc)
        ]

        pub run_much : came_status o.came ≡ 3 → IsTooMuch words holds (stream old new) err
        run_much three = elim came_to [
          | inl r ↦ absurd (run_never_much r (much_by o.came three))
          | inr r ↦ (request, asks, record { outcome = o; is = much_by o.came three; so = r; told = told })
        ]

  module _ (request : TraceRequest) (asks : AsksForTrace words request) (r : HasTracedFiles holds request o old new) where
    -- a trace is never left
    pub trace_never_much : came_status o.came ≡ 3 → ⊥
    trace_never_much three = never_much _ (sym r.so.so.traces.2.followed.came ∙ much_by o.came three)

    pub trace_untold : request.extras.summary ≡ false → came_status o.came ≡ 0 → o.told.items ≡ []
    trace_untold none zero =
        let e = r.so.so.traces.2 in
        e.followed.told ∙ (ap (λ (s : List ℕ). s ++ end_told Whole e.station (unmet request.extras e.by.last)) (no_summary request.extras.summary _ none) ∙ nothing_unmet (unmet request.extras e.by.last) e.station (sym (done_by o.came zero) ∙ e.followed.came))

    module _ (err : Listener) (told : IsToldText err o.told.items) where
      pub trace_done : (input : Stream) → came_status o.came ≡ 0 → IsDone words holds input (stream old new) err
      trace_done input zero = inr (inr (inr (inr (inr (inl (request, asks, record { outcome = o; is = done_by o.came zero; so = r; told = told }))))))

      pub trace_unended : came_status o.came ≡ 4 → IsUnended words holds (stream old new) err
      trace_unended four = inr (request, asks, record { outcome = o; is = unended_by o.came four; so = r; told = told })
