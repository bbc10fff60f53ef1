-- Why there is no session over a run of files, and what it leaves; and how one ended.
use Rattle.std.proofs.Common.{◌≡◌, ◌⊎◌, inl, inr, ℕ, List, [], append-nil, refl, subst}
use Rattle.std.specs.Prelude.{Option, codes}
use Rattle.std.specs.Io.KnownBytes.{Keeps}
use Rattle.clap.specs.Words.{Text}
use Rattle.ds_text.proofs.Sends.{part_before}
use Rattle.ds_policy.specs.Value.{PolicyValue}
use Rattle.ds_pagemap.specs.Inputs.{Sources}
use Rattle.ds_station.specs.Faults.{fault_number}
use Rattle.ds_station.specs.Headline.{Refuses}
use Rattle.ds_station.specs.declared.fault.Fault.{Fault}
use Rattle.ds_station.specs.declared.fault.Fault.TheVariants as fault
use Rattle.ds_station.proofs.Headlines.{keeps_same}
use Rattle.ds_debug.specs.Inputs.{RunInputs}
use Rattle.ds_debug.specs.Serving.{Debugs, DebugsPart, IsLate}
use Rattle.ds_gdb.specs.Serving.{Pipes, pipes}
use Rattle.ds_debug.specs.Inner.Serving.{DebugEndsBy}
use Rattle.ds_gdb.specs.Streams.{mark_text}
use Rattle.ds_gdb.specs.declared.serving.Ending.{Ending}
use Rattle.ds_gdb.specs.declared.serving.Ending.TheVariants.{Over, Unread}
use Rattle.ds_words.specs.declared.words.Request.{Request}
use Rattle.ds_words.specs.Words.{AsksForDebug}
use Rattle.ds_drive.specs.declared.failure.Failure.{Failure}
use Rattle.ds_drive.specs.declared.failure.Failure.TheVariants as failure
use Rattle.ds_drive.specs.Debugged.{CutsDebug, DebugStopsBy, HasDebugged, OfRunInputs}
use Rattle.ds_drive.specs.Done.{IsCutShort, IsDone, IsStopped, Stream, stream}
use Rattle.ds_drive.specs.Failures.{HoldsInputs, failure_number}
use Rattle.ds_drive.specs.Inner.Failures.{IsUnreadRun}
use Rattle.ds_drive.specs.Listening.{Listener, IsToldText}
use Rattle.ds_drive.specs.Statuses.{fault_status}
use Rattle.ds_drive.specs.Told.{failure_line}
use Rattle.ds_drive.proofs.Heard.{whole_part}
use Rattle.ds_drive.proofs.HeldFiles.{of_held}
use Rattle.ds_drive.proofs.Stops.{unread_stops}

module _ (holds : List ℕ → List ℕ → Type 0) (lacks : List ℕ → Type 0) (request : Request) where
  -- not all that the run is made of was read
  pub debug_unread : (f : Failure) (known : Option (List ℕ)) → IsUnreadRun f holds lacks request → DebugStopsBy f holds lacks request known known
  debug_unread f known unread =
      inl (unread_stops holds lacks (λ refused read. Refuses refused read × Keeps known known) (λ process. ⊥) request f known (λ refused read r. (r, keeps_same known)) unread)

  -- want of memory before the run
  pub memory_stops : (known : Option (List ℕ)) → DebugStopsBy (failure.Fault fault.Memory) holds lacks request known known
  memory_stops known = inl (inl (refl, keeps_same known))

module _ (holds : List ℕ → List ℕ → Type 0) (request : Request) (value : PolicyValue) (s t : Sources) (i j : List ℕ) (read : HoldsInputs holds request value t j) (e : s ≡ t) (f : i ≡ j) where
  -- what holds of what was lent holds of what was read
  pub of_run_inputs : (P : RunInputs → Type 0) → P (record { policy = value; sources = s; input = i; random = request.random }) → OfRunInputs holds request P
  of_run_inputs P so = record {
    policy = value;
    sources = t;
    input = j;
    read = read;
    so =
        subst (λ (x : List ℕ). P (record { policy = value; sources = t; input = x; random = request.random })) f
        (subst (λ (x : Sources). P (record { policy = value; sources = x; input = i; random = request.random })) e so);
  }

  -- a fault ended it, before the session or in it
  pub debug_ends : (lacks : List ℕ → Type 0) (p : Pipes) (x : Fault) → DebugEndsBy x (record { policy = value; sources = s; input = i; random = request.random }) request.most_time p → DebugStopsBy (failure.Fault x) holds lacks request p.old p.new
  debug_ends lacks p x (inl refused) =
      inl (inr (of_held holds request (λ made. Refuses x made × Keeps p.old p.new) value s t i j read e f (refused.0, refused.2)))
  debug_ends lacks p x (inr late) = inr (late.0, (p.unread, p.left, of_run_inputs (λ of. DebugsPart of request.most_time p) late.1))

-- of a session that was held whole a front was
whole_session : (ending : Ending) (i : RunInputs) (n : ℕ) (p : Pipes) → Debugs ending i n p → DebugsPart i n p
whole_session ending i n p d =
    let h = d.serves.heard in
    record {
      first = d.first;
      begins = d.begins;
      serves = record {
        bytes = d.serves.bytes;
        read = d.serves.read;
        part = record {
          some = d.serves.bytes;
          rest = [];
          whole = append-nil d.serves.bytes;
          last = d.last;
          text = h.text;
          hears = h.so;
          written = part_before p.old p.new h.text (mark_text d.last.exchange.acknowledges 43) (whole_part p.old p.new h.text h.written);
        };
      };
    }

module _ (words : List Text) (holds : List ℕ → List ℕ → Type 0) (request : Request) (old new : Option (List ℕ)) (asks : AsksForDebug words request) where
  -- it was cut short
  cut_leaves : (lacks : List ℕ → Type 0) (f : Failure) → DebugStopsBy f holds lacks request old new → Keeps old new ⊎ CutsDebug holds request old new
  cut_leaves lacks (failure.UnreadableFile name) (inl stops) = inl stops.1
  cut_leaves lacks (failure.UnreadableSource name) (inl stops) = inl stops.1
  cut_leaves lacks (failure.NoProcess process) (inl stops) = inl stops.1
  cut_leaves lacks (failure.Fault x) (inl (inl memory)) = inl memory.1
  cut_leaves lacks (failure.Fault x) (inl (inr refused)) = inl refused.so.1
  cut_leaves lacks (failure.UnreadableFile name) (inr none) = absurd none
  cut_leaves lacks (failure.UnreadableSource name) (inr none) = absurd none
  cut_leaves lacks (failure.NoProcess process) (inr none) = absurd none
  cut_leaves lacks (failure.Fault x) (inr cut) = inr cut.1

  pub debug_cut : (lacks : List ℕ → Type 0) (f : Failure) → DebugStopsBy f holds lacks request old new → IsCutShort words holds old new
  debug_cut lacks f stops = elim (cut_leaves lacks f stops) [
    | inl kept ↦ inl kept
    | inr cut ↦ inr (inr (inr (inr (inr (inr (inr (inl (request, asks, cut))))))))
  ]

  -- or a read failed
  pub unheard_cut : (unread left : Option (List ℕ)) → HasDebugged Unread holds request (pipes unread left old new) → IsCutShort words holds old new
  unheard_cut unread left d = inr (inr (inr (inr (inr (inr (inr (inl (
    request,
    asks,
    (
      unread,
      left,
      record { policy = d.policy; sources = d.sources; input = d.input; read = d.read; so = whole_session Unread _ request.most_time (pipes unread left old new) d.so },
    ),
  ))))))))

  pub debug_stopped : (lacks : List ℕ → Type 0) (f : Failure) (status : ℕ) (err : Listener) → fault_status (failure_number f) ≡ status → DebugStopsBy f holds lacks request old new → IsToldText err (failure_line f)
      → IsStopped status words holds lacks (stream old new) err
  debug_stopped lacks f status err has stops told =
      inr (inr (inr (inr (inr (inr (inl (request, asks, inl (record { failure = f; has = has; so = stops; told = told }))))))))

  pub unheard_stopped : (lacks : List ℕ → Type 0) (unread left : Option (List ℕ)) (status : ℕ) (err : Listener) → status ≡ 3 → HasDebugged Unread holds request (pipes unread left old new)
      → IsToldText err (codes "dsmon: standard input could not be read\n") → IsStopped status words holds lacks (stream old new) err
  unheard_stopped lacks unread left status err has so told =
      inr (inr (inr (inr (inr (inr (inl (request, asks, inr (record { has = has; unread = unread; left = left; so = so; told = told }))))))))

  -- or it was held to its end
  pub debug_done : (input : Stream) (err : Listener) → HasDebugged Over holds request (pipes input.old input.new old new) → IsDone words holds input (stream old new) err
  debug_done input err d = inr (inr (inr (inr (inr (inr (inl (request, asks, d)))))))

-- a fault of a run that has begun has status 3
late_three : (f : Fault) → IsLate f → fault_status (fault_number f) ≡ 2 → ⊥
late_three fault.Stuck late is = absurd cc
late_three fault.Failed late is = absurd cc
late_three fault.WriteFault late is = absurd cc
late_three fault.Memory late is = absurd cc
late_three f none is = absurd none

-- with status 2 nothing is written
pub debug_unwritten : (holds : List ℕ → List ℕ → Type 0) (lacks : List ℕ → Type 0) (request : Request) (f : Failure) (old new : Option (List ℕ)) → fault_status (failure_number f) ≡ 2 → DebugStopsBy f holds lacks request old new → Keeps old new
debug_unwritten holds lacks request (failure.UnreadableFile name) old new two (inl stops) = stops.1
debug_unwritten holds lacks request (failure.UnreadableSource name) old new two (inl stops) = stops.1
debug_unwritten holds lacks request (failure.NoProcess process) old new two (inl stops) = stops.1
debug_unwritten holds lacks request (failure.Fault x) old new two (inl (inl memory)) = memory.1
debug_unwritten holds lacks request (failure.Fault x) old new two (inl (inr refused)) = refused.so.1
debug_unwritten holds lacks request (failure.UnreadableFile name) old new two (inr none) = absurd none
debug_unwritten holds lacks request (failure.UnreadableSource name) old new two (inr none) = absurd none
debug_unwritten holds lacks request (failure.NoProcess process) old new two (inr none) = absurd none
debug_unwritten holds lacks request (failure.Fault x) old new two (inr cut) = absurd (late_three x cut.0 two)
