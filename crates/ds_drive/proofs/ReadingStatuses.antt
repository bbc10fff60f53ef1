-- How a command reads its files, and the status with which the program ends.
use Rattle.std.proofs.Common.{◌≡◌, inl, inr, ℕ, Bool, List, [], ◌∷◌}
use Rattle.std.specs.Prelude.{Option, Some, None}
use Rattle.clap.specs.Words.{Text}
use Rattle.ds_station.specs.declared.fault.Fault.TheVariants as fault
use Rattle.ds_words.specs.Words.{AsksForBare, AsksForCheck, AsksForDebug, AsksForExplain, AsksForList, AsksForRun, AsksForTrace}
use Rattle.ds_words.specs.declared.words.BareRequest.{BareRequest}
use Rattle.ds_words.specs.declared.words.CheckRequest.{CheckRequest}
use Rattle.ds_words.specs.declared.words.ExplainRequest.{ExplainRequest}
use Rattle.ds_words.specs.declared.words.ListRequest.{ListRequest}
use Rattle.ds_words.specs.declared.words.Request.{Request}
use Rattle.ds_words.specs.declared.words.RunRequest.{RunRequest}
use Rattle.ds_words.specs.declared.words.TraceRequest.{TraceRequest}
use Rattle.ds_drive.specs.declared.failure.Failure.{Failure}
use Rattle.ds_drive.specs.declared.failure.Failure.TheVariants as failure
use Rattle.ds_drive.specs.declared.files.FileFault.{FileFault}
use Rattle.ds_drive.specs.declared.files.FileFault.TheVariants as file
use Rattle.ds_drive.specs.Failures.{failure_number}
use Rattle.ds_drive.specs.Reading.{AskedFile, HasStatus, ReadsAll, ReadsFor, ReadsRunUntil, ReadsUntil, bare_names, input_names}
use Rattle.ds_drive.specs.Inner.Reading.{ReadsRun, TellsOf, TellsOfRun}
use Rattle.ds_drive.specs.Statuses.{fault_status}
use Rattle.ds_drive.proofs.Readings.{none_read, read_all, run_read_until, until_so}

-- what is told of a file that was not read has its status
pub has_status : (f : Failure) (status : ℕ) (unread : Option (List ℕ × FileFault)) → status ≡ fault_status (failure_number f) → TellsOf f unread → HasStatus status unread
has_status f status None is tells = tt
has_status (failure.Fault fault.Memory) status (Some (name, file.Memory)) is tells = is
has_status (failure.UnreadableFile told) status (Some (name, file.Unreadable)) is tells = is
has_status (failure.UnreadableSource told) status (Some (name, file.Unreadable)) is tells = is
has_status f status (Some (name, fault)) is none = absurd none

-- so where a run is not read
has_status_run : (inside : Bool) (f : Failure) (status : ℕ) (unread : Option (List ℕ × FileFault)) → status ≡ fault_status (failure_number f) → TellsOfRun inside f unread → HasStatus status unread
has_status_run inside f status None is tells = tt
has_status_run inside (failure.UnreadableSource told) status (Some u) is tells = has_status (failure.UnreadableSource told) status (Some u) is tells
has_status_run inside (failure.UnreadableFile told) status (Some u) is tells = has_status (failure.UnreadableFile told) status (Some u) is tells
has_status_run inside (failure.NoProcess process) status (Some u) is tells = has_status (failure.NoProcess process) status (Some u) is tells
has_status_run inside (failure.Fault x) status (Some u) is tells = has_status (failure.Fault x) status (Some u) is tells

module _ (P Q : Option (List ℕ × FileFault) → Type 0) (so : (unread : Option (List ℕ × FileFault)) → P unread → Q unread) where
  run_until_so : (holds : List ℕ → List ℕ → Type 0) (policy : List ℕ) (input : List (List ℕ)) (old new : Option (List AskedFile)) → ReadsRunUntil P holds policy input old new → ReadsRunUntil Q holds policy input old new
  run_until_so holds policy input old new r = record { names = r.names; named = r.named; until = until_so P Q so r.names old new r.until }

-- no file was asked for
pub no_file_asked : (status : ℕ) (words : List Text) (holds : List ℕ → List ℕ → Type 0) (known : Option (List AskedFile)) → ReadsFor status words holds known known
no_file_asked status words holds known = inl (none_read known)

module _ (status : ℕ) (words : List Text) (holds : List ℕ → List ℕ → Type 0) (old new : Option (List AskedFile)) where
  list_until : (request : ListRequest) → AsksForList words request → ReadsUntil (HasStatus status) (request.file.now ∷ []) old new → ReadsFor status words holds old new
  list_until request asks r = inr (inr (inl (request, asks, r)))

  bare_until : (request : BareRequest) → AsksForBare words request → ReadsUntil (HasStatus status) (bare_names request.start) old new → ReadsFor status words holds old new
  bare_until request asks r = inr (inr (inr (inr (inl (request, asks, r)))))

  -- the files of a run were read
  pub run_reads : (request : RunRequest) → AsksForRun words request → ReadsRun holds request.run.policy.now (request.run.input.now ∷ []) old new → ReadsFor status words holds old new
  run_reads request asks r = inr (inl (request, asks, run_read_until holds request.run.policy.now (request.run.input.now ∷ []) (HasStatus status) old new r tt))

  -- or not all of them
  pub run_reads_until : (request : RunRequest) (f : Failure) → status ≡ fault_status (failure_number f) → AsksForRun words request → ReadsRunUntil (TellsOfRun request.run.inside f) holds request.run.policy.now (request.run.input.now ∷ []) old new → ReadsFor status words holds old new
  run_reads_until request f has asks r =
      inr (inl (request, asks, run_until_so (TellsOfRun request.run.inside f) (HasStatus status) (λ u t. has_status_run request.run.inside f status u has t) holds request.run.policy.now (request.run.input.now ∷ []) old new r))

  -- that of a listing
  pub list_reads : (request : ListRequest) → AsksForList words request → ReadsAll (request.file.now ∷ []) old new → ReadsFor status words holds old new
  list_reads request asks r = list_until request asks (read_all (HasStatus status) (request.file.now ∷ []) old new r tt)

  pub list_reads_until : (request : ListRequest) (f : Failure) → status ≡ fault_status (failure_number f) → AsksForList words request → ReadsUntil (TellsOf f) (request.file.now ∷ []) old new → ReadsFor status words holds old new
  list_reads_until request f has asks r = list_until request asks (until_so (TellsOf f) (HasStatus status) (λ u t. has_status f status u has t) (request.file.now ∷ []) old new r)

  -- those of a check
  pub check_reads : (request : CheckRequest) → AsksForCheck words request → ReadsRun holds request.policy.now (input_names request.input) old new → ReadsFor status words holds old new
  check_reads request asks r = inr (inr (inr (inl (request, asks, run_read_until holds request.policy.now (input_names request.input) (HasStatus status) old new r tt))))

  pub check_reads_until : (request : CheckRequest) (f : Failure) → status ≡ fault_status (failure_number f) → AsksForCheck words request → ReadsRunUntil (TellsOfRun request.inside f) holds request.policy.now (input_names request.input) old new → ReadsFor status words holds old new
  check_reads_until request f has asks r =
      inr (inr (inr (inl (request, asks, run_until_so (TellsOfRun request.inside f) (HasStatus status) (λ u t. has_status_run request.inside f status u has t) holds request.policy.now (input_names request.input) old new r))))

  -- those of a run on the bare machine
  pub bare_reads : (request : BareRequest) → AsksForBare words request → ReadsAll (bare_names request.start) old new → ReadsFor status words holds old new
  bare_reads request asks r = bare_until request asks (read_all (HasStatus status) (bare_names request.start) old new r tt)

  pub bare_reads_until : (request : BareRequest) (f : Failure) → status ≡ fault_status (failure_number f) → AsksForBare words request → ReadsUntil (TellsOf f) (bare_names request.start) old new → ReadsFor status words holds old new
  bare_reads_until request f has asks r = bare_until request asks (until_so (TellsOf f) (HasStatus status) (λ u t. has_status f status u has t) (bare_names request.start) old new r)

  -- those of a trace
  pub trace_reads : (request : TraceRequest) → AsksForTrace words request → ReadsRun holds request.run.policy.now (request.run.input.now ∷ []) old new → ReadsFor status words holds old new
  trace_reads request asks r = inr (inr (inr (inr (inr (inl (request, asks, run_read_until holds request.run.policy.now (request.run.input.now ∷ []) (HasStatus status) old new r tt))))))

  pub trace_reads_until : (request : TraceRequest) (f : Failure) → status ≡ fault_status (failure_number f) → AsksForTrace words request → ReadsRunUntil (TellsOfRun request.run.inside f) holds request.run.policy.now (request.run.input.now ∷ []) old new → ReadsFor status words holds old new
  trace_reads_until request f has asks r =
      inr (inr (inr (inr (inr (inl (request, asks, run_until_so (TellsOfRun request.run.inside f) (HasStatus status) (λ u t. has_status_run request.run.inside f status u has t) holds request.run.policy.now (request.run.input.now ∷ []) old new r))))))

  -- those of a session with a debugger
  pub debug_reads : (request : Request) → AsksForDebug words request → ReadsRun holds request.policy.now (request.input.now ∷ []) old new → ReadsFor status words holds old new
  debug_reads request asks r = inr (inr (inr (inr (inr (inr (inl (request, asks, run_read_until holds request.policy.now (request.input.now ∷ []) (HasStatus status) old new r tt)))))))

  pub debug_reads_until : (request : Request) (f : Failure) → status ≡ fault_status (failure_number f) → AsksForDebug words request → ReadsRunUntil (TellsOfRun request.inside f) holds request.policy.now (request.input.now ∷ []) old new → ReadsFor status words holds old new
  debug_reads_until request f has asks r =
      inr (inr (inr (inr (inr (inr (inl (request, asks, run_until_so (TellsOfRun request.inside f) (HasStatus status) (λ u t. has_status_run request.inside f status u has t) holds request.policy.now (request.input.now ∷ []) old new r)))))))

  -- those of an explained log
  pub explain_reads : (request : ExplainRequest) → AsksForExplain words request → ReadsRun holds request.run.policy.now (request.run.input.now ∷ []) old new → ReadsFor status words holds old new
  explain_reads request asks r = inr (inr (inr (inr (inr (inr (inr (request, asks, run_read_until holds request.run.policy.now (request.run.input.now ∷ []) (HasStatus status) old new r tt)))))))

  pub explain_reads_until : (request : ExplainRequest) (f : Failure) → status ≡ fault_status (failure_number f) → AsksForExplain words request → ReadsRunUntil (TellsOfRun request.run.inside f) holds request.run.policy.now (request.run.input.now ∷ []) old new → ReadsFor status words holds old new
  explain_reads_until request f has asks r =
      inr (inr (inr (inr (inr (inr (inr (request, asks, run_until_so (TellsOfRun request.run.inside f) (HasStatus status) (λ u t. has_status_run request.run.inside f status u has t) holds request.run.policy.now (request.run.input.now ∷ []) old new r)))))))
