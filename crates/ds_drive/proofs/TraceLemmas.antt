-- Why there is no trace of a run of files, and what it leaves; and what a trace came to.
use Rattle.std.proofs.Common.{◌≡◌, ◌∙◌, ◌⊎◌, inl, inr, ℕ, Bool, true, false, List, [], ◌++◌, append_assoc, length, refl, sym, ap, subst}
use Rattle.std.specs.Prelude.{Option, Some, Result}
use Rattle.std.specs.Borrow.{Bor}
use Rattle.std.specs.Io.KnownBytes.{Keeps}
use Rattle.clap.specs.Words.{Text}
use Rattle.ds_listing.specs.Pages.{plain_pages}
use Rattle.ds_listing.specs.declared.pages.PageLines.{PageLines}
use Rattle.ds_text.specs.Sent.{AppendsPart}
use Rattle.ds_text.proofs.Sends.{part_before, part_after}
use Rattle.ds_policy.specs.Value.{PolicyValue}
use Rattle.ds_pagemap.specs.Machine.{State}
use Rattle.ds_pagemap.specs.Inputs.{Refusal, Sources}
use Rattle.ds_pagemap.specs.Text.{state_text}
use Rattle.ds_refinement.specs.Held.{Held}
use Rattle.ds_refinement.specs.Stands.{Stands}
use Rattle.ds_station.specs.Headline.{Begins, Loaded, Refuses}
use Rattle.ds_station.specs.declared.fault.Fault.{Fault}
use Rattle.ds_station.specs.declared.fault.Fault.TheVariants as fault
use Rattle.ds_station.specs.declared.pieces.Extent.TheVariants.{Whole}
use Rattle.ds_station.proofs.Headlines.{keeps_same}
use Rattle.ds_trace.specs.Inner.Handed.{IsLate}
use Rattle.ds_trace.specs.Summed.{summed_text}
use Rattle.ds_trace.specs.Traces.{TraceEndsBy, WritesTraceBy, WritesTracePart, WritesTraceReally, counts_along, told_to}
use Rattle.ds_trace.proofs.Inputs.{short_part}
use Rattle.ds_words.specs.declared.view.View.{View}
use Rattle.ds_words.specs.Windows.{windows_in}
use Rattle.ds_words.specs.declared.words.TraceRequest.{TraceRequest}
use Rattle.ds_words.specs.Words.{AsksForTrace}
use Rattle.ds_drive.specs.declared.failure.Failure.{Failure}
use Rattle.ds_drive.specs.declared.failure.Failure.TheVariants as failure
use Rattle.ds_drive.specs.declared.outcome.Outcome.{Outcome}
use Rattle.ds_drive.specs.Done.{IsCutShort, IsStopped, stream}
use Rattle.ds_drive.specs.Listening.{Listener, IsToldText}
use Rattle.ds_drive.specs.Failures.{HoldsInputs, LacksProcess, failure_number}
use Rattle.ds_drive.specs.Inner.Failures.{IsUnreadRun}
use Rattle.ds_drive.specs.Outcomes.{IsFollowed, left, wants_more, where_asked}
use Rattle.ds_drive.specs.Placed.{OfPlaced, pages_by_sources, trace_with_lines}
use Rattle.ds_drive.specs.Inner.Placed.{WithPlaced}
use Rattle.ds_drive.specs.Ran.{IsTraced, trace_summary}
use Rattle.ds_drive.specs.Statuses.{fault_status}
use Rattle.ds_drive.specs.Told.{failure_line}
use Rattle.ds_drive.specs.TraceRuns.{CutsTrace, FilesTraceEnds, TraceEndsThenBy, TraceStopsBy, TracesPartThen}
use Rattle.ds_drive.specs.Inner.TraceRuns.{PlacedTraceEnds}
use Rattle.ds_drive.specs.Windows.{lacking_of, windows_text}
use Rattle.ds_drive.proofs.Cuts.{files_cut_by}
use Rattle.ds_drive.proofs.Stops.{unread_stops}

module _ (request : TraceRequest) where
  -- where no summary is wanted, it has nothing
  pub no_summary : (choices : List Bool) (h : Held) (first : State) → request.extras.summary ≡ false → [] ≡ trace_summary request choices h first
  no_summary choices h first none =
      ap (λ (b : Bool). where_asked b (summed_text request.run.most_time first.characters (counts_along request.view request.run.most_time choices first) h)) (sym none)

  -- where one is, it is what is told by what was counted
  pub counted_summary : (choices : List Bool) (h : Held) (first : State) (text : List ℕ) → request.extras.summary ≡ true
      → text ≡ summed_text request.run.most_time first.characters (counts_along request.view request.run.most_time choices first) h → text ≡ trace_summary request choices h first
  counted_summary choices h first text wanted told =
      told ∙ ap (λ (b : Bool). where_asked b (summed_text request.run.most_time first.characters (counts_along request.view request.run.most_time choices first) h)) (sym wanted)

  -- a front of a trace and the text of the run is one of these and of what follows
  part_then : (old new : Option (List ℕ)) (first : State) → WritesTracePart request.view old new request.run.most_time first → TracesPartThen request old new first
  part_then old new first w =
      let lines = told_to request.view request.run.most_time first w.last w.reached w.processor in
      let windows = windows_text w.last (windows_in request.extras.memory) in
      record {
        last = w.last;
        reached = w.reached;
        processor = w.processor;
        processed = w.processed;
        written = subst (AppendsPart old new) (append_assoc lines (state_text w.last) windows) (part_before old new (lines ++ state_text w.last) windows w.written);
      }

  -- a trace ended by a fault
  pub ends_then_by : (f : Fault) (read : Result State Refusal) (old new : Option (List ℕ)) → TraceEndsBy f request.view read old new request.run.most_time → TraceEndsThenBy f request read old new
  ends_then_by fault.Memory read old new ends = inl ends
  ends_then_by fault.WriteFault read old new b = (b.0, b.1, part_then old new b.0 b.2)
  ends_then_by f read old new ends = ends

  late_then : (f : Fault) (read : Result State Refusal) (old new : Option (List ℕ)) → IsLate f → wants_more request.extras ≡ true → Begins read (TracesPartThen request old new) → TraceEndsThenBy f request read old new
  late_then fault.Memory read old new late asked part = inr (asked, part)
  late_then fault.WriteFault read old new late asked part = part
  late_then f read old new none asked part = absurd none

  -- a fault came after it
  pub late_traced : (old between new : Option (List ℕ)) (h : Held) → ((m : State) → Stands h m → AppendsPart between new (windows_text m (windows_in request.extras.memory))) → (f : Fault) (read : Result State Refusal)
      → IsLate f → wants_more request.extras ≡ true → Begins read (WritesTraceBy request.view h old between request.run.most_time) → TraceEndsThenBy f request read old new
  late_traced old between new h follows f read late asked b =
      let w = b.2 in
      let windows = windows_text w.last (windows_in request.extras.memory) in
      late_then f read old new late asked (
        b.0,
        b.1,
        record {
          last = w.last;
          reached = w.ends.reached;
          processor = w.processor;
          processed = w.processed.0;
          written = part_after old w.between new (told_to request.view request.run.most_time b.0 w.last w.ends.reached w.processor) (state_text w.last ++ windows) w.trace
              (part_after w.between between new (state_text w.last) windows w.written (follows w.last w.processed.1));
        },
      )

  -- it was told, and what follows is written
  pub has_traced : (o : Outcome) (old between new : Option (List ℕ)) (h : Held) (summary : List ℕ) (read : Result State Refusal) (begun : Result Loaded Refusal)
      → (b : Begins read (WritesTraceBy request.view h old between request.run.most_time)) → summary ≡ trace_summary request b.2.ends.reached.choices h b.0
      → Begins begun (WritesTraceReally request.view old between request.run.most_time request.run.random)
      → ((m : State) → Stands h m → IsFollowed request.extras summary o between new (left Whole h m))
      → IsTraced request o old new read begun
  has_traced o old between new h summary read begun b summed real follows = record {
    between = between;
    traces = (
      b.0,
      b.1,
      record {
        station = h;
        by = b.2;
        followed = subst (λ (s : List ℕ). IsFollowed request.extras s o between new (left Whole h b.2.last)) summed (follows b.2.last b.2.processed.1);
      },
    );
    real = real;
  }

module _ (holds : List ℕ → List ℕ → Type 0) (lacks : List ℕ → Type 0) (request : TraceRequest) where
  -- not all that the run is made of was read
  pub trace_unread : (f : Failure) (known : Option (List ℕ)) → IsUnreadRun f holds lacks request.run → TraceStopsBy f holds lacks request known known
  trace_unread f known unread =
      unread_stops holds lacks (FilesTraceEnds holds request known known) (LacksProcess holds request.run (windows_in request.extras.memory)) request.run f known
      (λ refused read r. inl (r, keeps_same known)) unread

  -- want of memory before the run
  pub memory_stops : (known : Option (List ℕ)) → TraceStopsBy (failure.Fault fault.Memory) holds lacks request known known
  memory_stops known = inl (refl, keeps_same known)

  -- a process that the policy lacks
  pub process_stops : (process : ℕ) (value : PolicyValue) (sources : Sources) (input : List ℕ) (known : Option (List ℕ)) → HoldsInputs holds request.run value sources input
      → lacking_of (length value.processes) (windows_in request.extras.memory) ≡ Some process → TraceStopsBy (failure.NoProcess process) holds lacks request known known
  process_stops process value sources input known read first = (record { value = value; sources = sources; input = input; read = read; first = first }, keeps_same known)

-- whatever the fault, nothing is written, or a front of the trace, of the text of a run and of what follows
leaves_part : (f : Fault) (request : TraceRequest) (read : Result State Refusal) (old new : Option (List ℕ)) → TraceEndsThenBy f request read old new → Keeps old new ⊎ Begins read (TracesPartThen request old new)
leaves_part fault.Memory request read old new (inl (inl kept)) = inl kept
leaves_part fault.Memory request read old new (inl (inr short)) = inr (short.0, short.1, part_then request old new short.0 (short_part request.view old new request.run.most_time short.0 _ short.2))
leaves_part fault.Memory request read old new (inr late) = inr late.1
leaves_part fault.Stuck request read old new none = absurd none
leaves_part fault.WriteFault request read old new part = inr part
leaves_part fault.Failed request read old new none = absurd none
leaves_part f request read old new refused = inl refused.1

-- so with the lines of the sources
placed_part : (f : Fault) (holds : List ℕ → List ℕ → Type 0) (request : TraceRequest) (read : Result State Refusal) (old new : Option (List ℕ)) → FilesTraceEnds holds request old new f read
    → Keeps old new ⊎ OfPlaced holds request (λ told. Begins read (TracesPartThen told old new))
placed_part f holds request read old new (inl refused) = inl refused.1
placed_part f holds request read old new (inr p) = elim (leaves_part f (trace_with_lines request p.pages) read old new p.so) [
  | inl kept ↦ inl kept
  | inr part ↦ inr (record { pages = p.pages; placed = p.placed; so = part })
]

trace_leaves : (f : Failure) (holds : List ℕ → List ℕ → Type 0) (lacks : List ℕ → Type 0) (request : TraceRequest) (old new : Option (List ℕ)) → TraceStopsBy f holds lacks request old new → Keeps old new ⊎ CutsTrace holds request old new
trace_leaves f holds lacks request old new stops =
    files_cut_by (FilesTraceEnds holds request old new) (LacksProcess holds request.run (windows_in request.extras.memory)) (λ read. OfPlaced holds request (λ told. Begins read (TracesPartThen told old new)))
    f holds lacks request.run old new (λ e read ends. placed_part e holds request read old new ends) stops

-- what holds of the trace with these lines, where they are those of the sources, holds of that with the lines of the sources
pub with_placed : (value : PolicyValue) (s : Sources) (request : TraceRequest) (P : TraceRequest → Type 0) (pages : Bor (List (Option PageLines))) (view : View)
    → view ≡ record request.view { pages = pages } → plain_pages pages.now ≡ pages_by_sources value s request → P (record request { view = view }) → WithPlaced value s request P
with_placed value s request P pages view is are so = record {
  pages = pages;
  are = are;
  so = subst (λ (v : View). P (record request { view = v })) is so;
}

-- and of that with the lines of the files' sources
pub of_placed : (holds : List ℕ → List ℕ → Type 0) (request : TraceRequest) (P : TraceRequest → Type 0) (value : PolicyValue) (s t : Sources) (input : List ℕ)
    → HoldsInputs holds request.run value t input → s ≡ t → WithPlaced value s request P → OfPlaced holds request P
of_placed holds request P value s t input held e w = record {
  pages = w.pages;
  placed = record { value = value; sources = t; input = input; held = held; are = w.are ∙ ap (λ (x : Sources). pages_by_sources value x request) e };
  so = w.so;
}

-- a fault of the trace of what was read is one of the trace of files
pub files_end : (holds : List ℕ → List ℕ → Type 0) (request : TraceRequest) (value : PolicyValue) (s t : Sources) (input : List ℕ) (old new : Option (List ℕ)) (f : Fault) (read : Result State Refusal)
    → HoldsInputs holds request.run value t input → s ≡ t → PlacedTraceEnds value s request old new f read → FilesTraceEnds holds request old new f read
files_end holds request value s t input old new f read held e (inl memory) = inl (subst (λ (x : Fault). Refuses x read) (sym memory.0) tt, memory.1)
files_end holds request value s t input old new f read held e (inr w) = inr (of_placed holds request (λ told. TraceEndsThenBy f told read old new) value s t input held e w)

-- whatever the failure
pub trace_cut : (words : List Text) (holds : List ℕ → List ℕ → Type 0) (lacks : List ℕ → Type 0) (request : TraceRequest) (f : Failure) (old new : Option (List ℕ)) → AsksForTrace words request → TraceStopsBy f holds lacks request old new → IsCutShort words holds old new
trace_cut words holds lacks request f old new asks stops = elim (trace_leaves f holds lacks request old new stops) [
  | inl kept ↦ inl kept
  | inr cut ↦ inr (inr (inr (inr (inr (inr (inl (request, asks, cut)))))))
]

-- What the program says of it.
pub trace_stopped : (words : List Text) (holds : List ℕ → List ℕ → Type 0) (lacks : List ℕ → Type 0) (status : ℕ) (old new : Option (List ℕ)) (err : Listener) (request : TraceRequest) (f : Failure)
    → fault_status (failure_number f) ≡ status → AsksForTrace words request → TraceStopsBy f holds lacks request old new
    → IsToldText err (failure_line f) → IsStopped status words holds lacks (stream old new) err
trace_stopped words holds lacks status old new err request f has asks stops told =
    inr (inr (inr (inr (inr (inl (request, asks, record { failure = f; has = has; so = stops; told = told }))))))
