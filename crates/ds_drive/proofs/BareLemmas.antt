-- Why there is no run on the bare machine, and what it leaves.
use Rattle.std.proofs.Common.{◌≡◌, ◌⊎◌, inl, inr, ℕ, List, [], refl, sym, subst, Bor}
use Rattle.std.specs.Prelude.{Option, Some, None, false}
use Rattle.std.specs.Io.KnownBytes.{Keeps}
use Rattle.clap.specs.Words.{Text}
use Rattle.ds_asm.specs.declared.fault.SourceFault.{SourceFault}
use Rattle.ds_policy.specs.InputText.{input_of}
use Rattle.ds_policy.specs.declared.command.Character.{Character}
use Rattle.ds_policy.specs.declared.events.fault.EventsFault.{EventsFault}
use Rattle.ds_policy.specs.declared.events.fault.EventsFault.TheVariants as events
use Rattle.ds_text.specs.Sent.{AppendsPart}
use Rattle.ds_words.specs.declared.bare_view.BareView.{BareView}
use Rattle.ds_bare.specs.Faults.{is_cut, may_start}
use Rattle.ds_bare.specs.Inner.Keys.{IsFaultOf}
use Rattle.ds_bare.specs.Machine.{machine_at_start}
use Rattle.ds_bare.specs.Runs.{IsCutBetween, bare_text, steps_told}
use Rattle.ds_bare.specs.declared.fault.BareFault.{BareFault}
use Rattle.ds_bare.specs.declared.fault.BareFault.TheVariants as bare
use Rattle.ds_station.specs.Inner.Faults.{of_events}
use Rattle.ds_station.specs.declared.fault.Fault.TheVariants as fault
use Rattle.ds_station.proofs.Headlines.{keeps_same}
use Rattle.ds_drive.specs.declared.failure.Failure.{Failure}
use Rattle.ds_drive.specs.declared.failure.Failure.TheVariants as failure
use Rattle.ds_drive.specs.BareRuns.{BareEndsBy, BareFailsBy, CutsBare, HasBareFaults, HoldsBare, IsUnreadBare, ShortBare}
use Rattle.ds_drive.specs.Inner.BareRuns.{of_bare}
use Rattle.ds_drive.specs.Checked.{IsInput}
use Rattle.ds_drive.specs.Inner.Checked.{IsUnreadInput}
use Rattle.ds_drive.specs.Done.{IsCutShort, IsStopped, stream}
use Rattle.ds_drive.specs.Listening.{Listener, IsToldText, TellsSome}
use Rattle.ds_drive.specs.Failures.{failure_number}
use Rattle.ds_drive.specs.Inner.Failures.{IsUnread}
use Rattle.ds_drive.specs.Statuses.{fault_status}
use Rattle.ds_drive.specs.Told.{failure_line, listed_faults}
use Rattle.ds_words.specs.declared.words.BareRequest.{BareRequest}
use Rattle.ds_words.specs.declared.words.BareStart.{BareStart}
use Rattle.ds_words.specs.Words.{AsksForBare}

module _ (holds : List ℕ → List ℕ → Type 0) (lacks : List ℕ → Type 0) (start : BareStart) where
  -- the source's file was not read
  pub source_unread : (f : Failure) → IsUnread lacks start.source.now f → IsUnreadBare f holds lacks start
  source_unread (failure.UnreadableFile name) unread = (inl unread.0, subst lacks (sym unread.0) unread.1)
  source_unread (failure.Fault fault.Memory) unread = tt
  source_unread f none = absurd none

  input_unread_by : (later : List ℕ → Type 0) (input : Option (Bor (List ℕ))) (f : Failure) → ((file : List ℕ) → later file → lacks file)
      → start.keys ≡ input → IsUnreadInput later input f → IsUnreadBare f holds lacks start
  input_unread_by later None f lacked is none = absurd none
  input_unread_by later (Some name) (failure.UnreadableFile told) lacked is unread =
      (inr (name, is, unread.0), lacked told.now (subst later (sym unread.0) unread.1))
  input_unread_by later (Some name) (failure.Fault fault.Memory) lacked is unread = tt
  input_unread_by later (Some name) f lacked is none = absurd none

  -- nor the input's
  pub input_unread : (later : List ℕ → Type 0) (f : Failure) → ((file : List ℕ) → later file → lacks file)
      → IsUnreadInput later start.keys f → IsUnreadBare f holds lacks start
  input_unread later f lacked unread = input_unread_by later start.keys f lacked refl unread

  -- a line of the input is wrong
  pub wrong_line : (e : EventsFault) (input : List ℕ) → IsInput holds start.keys input → IsFaultOf (input_of [] input) e
      → IsUnreadBare (failure.Fault (of_events e)) holds lacks start
  wrong_line (events.InputFault line) input held wrong = record { input = input; held = held; wrong = wrong }
  wrong_line events.Memory input held wrong = tt

module _ (holds : List ℕ → List ℕ → Type 0) (lacks : List ℕ → Type 0) (request : BareRequest) where
  -- the run can't begin
  pub never_begun : (f : Failure) (known : Option (List ℕ)) → IsUnreadBare f holds lacks request.start → BareFailsBy f holds lacks request known known
  never_begun f known unread = inl (unread, keeps_same known)

  -- it was refused, or cut short
  pub run_fails : (e : BareFault) (image : List ℕ) (keys : List Character) (old new : Option (List ℕ)) → HoldsBare holds request.start image keys
      → is_cut e ≡ may_start request.start.random → (is_cut e ≡ false → Keeps old new)
      → AppendsPart old new (bare_text request.view image request.start.random request.start.most keys)
      → (e ≡ bare.Memory → IsCutBetween old new request.view request.start.most (machine_at_start image request.start.random keys))
      → BareFailsBy (failure.Fault (of_bare e)) holds lacks request old new
  run_fails bare.BadRandom image keys old new held starts kept part short = inr (sym starts, kept refl)
  run_fails bare.WriteFault image keys old new held starts kept part short = inr (record { image = image; keys = keys; held = held; starts = sym starts; so = part })
  run_fails bare.Memory image keys old new held starts kept part short = inr (record { image = image; keys = keys; held = held; starts = sym starts; so = short refl })

-- a run that was cut between two instructions has told a front of its text
short_part : (image : List ℕ) (random : ℕ) (view : BareView) (most : ℕ) (keys : List Character) (old new : Option (List ℕ)) → IsCutBetween old new view most (machine_at_start image random keys) → AppendsPart old new (bare_text view image random most keys)
unfolding bare_text
short_part image random view most keys old new cut =
    record { part = steps_told view cut.done (machine_at_start image random keys); rest = cut.rest; whole = cut.goes_on; appends = cut.written }

short_cuts : (holds : List ℕ → List ℕ → Type 0) (request : BareRequest) (old new : Option (List ℕ)) → ShortBare holds request old new → CutsBare holds request old new
short_cuts holds request old new s = record {
  image = s.image;
  keys = s.keys;
  held = s.held;
  starts = s.starts;
  so = short_part s.image request.start.random request.view request.start.most s.keys old new s.so;
}

-- whatever the failure, nothing is written, or a front of the text of the run
cut_leaves : (holds : List ℕ → List ℕ → Type 0) (request : BareRequest) (f : Failure) (old new : Option (List ℕ)) → BareEndsBy f holds request old new → Keeps old new ⊎ CutsBare holds request old new
cut_leaves holds request (failure.Fault fault.BadRandom) old new refused = inl refused.1
cut_leaves holds request (failure.Fault fault.WriteFault) old new cut = inr cut
cut_leaves holds request (failure.Fault fault.Memory) old new short = inr (short_cuts holds request old new short)
cut_leaves holds request f old new none = absurd none

pub bare_cut : (words : List Text) (holds : List ℕ → List ℕ → Type 0) (lacks : List ℕ → Type 0) (request : BareRequest) (f : Failure) (old new : Option (List ℕ)) → AsksForBare words request
    → BareFailsBy f holds lacks request old new → IsCutShort words holds old new
bare_cut words holds lacks request f old new asks (inl unread) = inl unread.1
bare_cut words holds lacks request f old new asks (inr ends) = elim (cut_leaves holds request f old new ends) [
  | inl kept ↦ inl kept
  | inr cut ↦ inr (inr (inr (inr (inr (inl (request, asks, cut))))))
]

-- What the program says of it.
module _ (words : List Text) (holds : List ℕ → List ℕ → Type 0) (lacks : List ℕ → Type 0) (status : ℕ) (old new : Option (List ℕ)) (err : Listener) where
  pub bare_stopped : (request : BareRequest) (f : Failure) → fault_status (failure_number f) ≡ status → AsksForBare words request → BareFailsBy f holds lacks request old new
      → IsToldText err (failure_line f) → IsStopped status words holds lacks (stream old new) err
  bare_stopped request f has asks fails told = inr (inr (inr (inr (inl (request, asks, inl (record { failure = f; has = has; so = fails; told = told }))))))

  pub bare_faulty : (request : BareRequest) (text : List ℕ) (faults : List SourceFault) → status ≡ 2 → AsksForBare words request → HasBareFaults holds request.start text faults → Keeps old new
      → TellsSome err [] (listed_faults request.start.source.now text faults) → IsStopped status words holds lacks (stream old new) err
  bare_faulty request text faults has asks are kept told = inr (inr (inr (inr (inl (request, asks, inr (record { has = has; text = text; faults = faults; are = are; kept = kept; told = told }))))))
