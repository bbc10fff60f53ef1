-- What the program has done.
use Rattle.std.specs.Prelude.{◌≡◌, ◌⊎◌, ℕ, false, List, [], Option}
use Rattle.std.specs.Io.KnownBytes.{Keeps}
use Rattle.clap.specs.Words.{Text}
use Rattle.ds_asm.specs.declared.fault.SourceFault.{SourceFault}
use Rattle.ds_station.specs.Faults.{fault_number}
use Rattle.ds_station.specs.Headline.{Begins, WritesPart, EndsBy}
use Rattle.ds_station.specs.declared.fault.Fault.{Fault}
use Rattle.ds_drive.specs.declared.failure.Failure.{Failure}
use Rattle.ds_words.specs.declared.words.BareRequest.{BareRequest}
use Rattle.ds_words.specs.declared.words.BareStart.{BareStart}
use Rattle.ds_words.specs.declared.words.CheckRequest.{CheckRequest}
use Rattle.ds_words.specs.declared.words.ExplainRequest.{ExplainRequest}
use Rattle.ds_words.specs.declared.words.ListRequest.{ListRequest}
use Rattle.ds_words.specs.declared.words.Request.{Request}
use Rattle.ds_words.specs.declared.words.RunRequest.{RunRequest}
use Rattle.ds_words.specs.declared.words.TraceRequest.{TraceRequest}
use Rattle.ds_drive.specs.Demo.{demo_inputs}
use Rattle.ds_drive.specs.declared.failure.Failure.TheVariants as failure
use Rattle.ds_drive.specs.declared.outcome.Came.{Came}
use Rattle.ds_drive.specs.declared.outcome.Came.TheVariants as came
use Rattle.ds_drive.specs.declared.outcome.Outcome.{Outcome}
use Rattle.ds_drive.specs.declared.refused.Refused.{Refused}
use Rattle.ds_drive.specs.Failures.{CutsFiles, StopsBy, failure_number, memory_failure}
use Rattle.ds_drive.specs.Told.{below_text, failure_line, listed_faults}
use Rattle.ds_drive.specs.Listening.{Listener, IsToldText, TellsSome}
use Rattle.ds_drive.specs.Statuses.{fault_status}
use Rattle.ds_drive.specs.BareRuns.{RunsBare, CutsBare, BareFailsBy, HasBareFaults}
use Rattle.ds_gdb.specs.Serving.{pipes}
use Rattle.ds_gdb.specs.declared.serving.Ending.TheVariants.{Over}
use Rattle.ds_drive.specs.Debugged.{CutsDebug, DebugStopsBy, HasDebugged, IsUnheard}
use Rattle.ds_drive.specs.ExplainedLogs.{CutsExplained, ExplainStopsBy, HasExplained}
use Rattle.ds_drive.specs.Checked.{ExplainsCheck, CutsExplanation, ChecksBy, HasNotes}
use Rattle.ds_drive.specs.Listed.{ListsFile, CutsListing, FailsBy, HasFaults}
use Rattle.ds_drive.specs.Ran.{HasLeftFiles, HasRunDemo, HasRunFiles, HasTracedFiles}
use Rattle.ds_drive.specs.TraceRuns.{CutsTrace, TraceStopsBy}
use Rattle.ds_words.specs.Words.{AsksForBare, AsksForDemo, AsksForRun, AsksForList, AsksForCheck, AsksForDebug, AsksForExplain, AsksForTrace}

-- what a writer held before, and what it holds now, where that is known
pub record Stream : Type 0 where
  pub old : Option (List ℕ)
  pub new : Option (List ℕ)

-- these two
abbrev pub stream : Option (List ℕ) → Option (List ℕ) → Stream
stream old new = record { old = old; new = new }

-- a run came to this, of which this holds, and what is told of it was told
pub record ComesTo (which : Came) (err : Listener) (P : Outcome → Type 0) : Type 0 where
  pub outcome : Outcome
  pub is : outcome.came ≡ which
  pub so : P outcome
  pub told : IsToldText err outcome.told.items

-- what the words ask for was run, listed or explained, and its text is written; a run is under a
-- policy, with its trace or without, or on the bare machine; or a session with a debugger was held to its end, where this was to be read and is left; or the log of a run was explained
abbrev pub IsDone : List Text → (List ℕ → List ℕ → Type 0) → Stream → Stream → Listener → Type 0
IsDone words holds input out err =
    (AsksForDemo words × HasRunDemo out.old out.new)
    ⊎ (((request : RunRequest) × AsksForRun words request × ComesTo came.Done err (λ o. HasRunFiles holds request o out.old out.new))
    ⊎ (((request : ListRequest) × AsksForList words request × ListsFile holds request out.old out.new)
    ⊎ (((request : CheckRequest) × AsksForCheck words request × ExplainsCheck holds request out.old out.new)
    ⊎ (((request : BareRequest) × AsksForBare words request × RunsBare holds request out.old out.new)
    ⊎ (((request : TraceRequest) × AsksForTrace words request × ComesTo came.Done err (λ o. HasTracedFiles holds request o out.old out.new))
    ⊎ (((request : Request) × AsksForDebug words request × HasDebugged Over holds request (pipes input.old input.new out.old out.new))
    ⊎ ((request : ExplainRequest) × AsksForExplain words request × HasExplained holds request out.old out.new)))))))

-- what the words ask for was run, with its trace or without, and a process has not ended, though the words want that all end; which it is was told
abbrev pub IsUnended : List Text → (List ℕ → List ℕ → Type 0) → Stream → Listener → Type 0
IsUnended words holds out err =
    ((request : RunRequest) × AsksForRun words request × ComesTo came.Unended err (λ o. HasRunFiles holds request o out.old out.new))
    ⊎ ((request : TraceRequest) × AsksForTrace words request × ComesTo came.Unended err (λ o. HasTracedFiles holds request o out.old out.new))

-- the run that the words ask for was left with more bytes than they allow, and that was told
abbrev pub IsTooMuch : List Text → (List ℕ → List ℕ → Type 0) → Stream → Listener → Type 0
IsTooMuch words holds out err = (request : RunRequest) × AsksForRun words request × ComesTo came.TooMuch err (λ o. HasLeftFiles holds request o out.old out.new)

-- the words want no summary of what they ask for
pub record AsksNoSummary (words : List Text) : Type 0 where
  pub run : (request : RunRequest) → AsksForRun words request → request.extras.summary ≡ false
  pub trace : (request : TraceRequest) → AsksForTrace words request → request.extras.summary ≡ false

-- nothing is written; or what the words ask for was run, and a front of the text of a run that was
-- cut short between two turns, was left or has ended, and of what is written after it, and nothing else;
-- or a front of a listing, of what is explained, of a run on the bare machine, of a trace, of a session, or of an explained log
abbrev pub IsCutShort : List Text → (List ℕ → List ℕ → Type 0) → Option (List ℕ) → Option (List ℕ) → Type 0
IsCutShort words holds old new =
    Keeps old new
    ⊎ ((AsksForDemo words × Begins demo_inputs (WritesPart old new 100))
    ⊎ (((request : RunRequest) × AsksForRun words request × CutsFiles holds request old new)
    ⊎ (((request : ListRequest) × AsksForList words request × CutsListing holds request old new)
    ⊎ (((request : CheckRequest) × AsksForCheck words request × CutsExplanation holds request old new)
    ⊎ (((request : BareRequest) × AsksForBare words request × CutsBare holds request old new)
    ⊎ (((request : TraceRequest) × AsksForTrace words request × CutsTrace holds request old new)
    ⊎ (((request : Request) × AsksForDebug words request × CutsDebug holds request old new)
    ⊎ ((request : ExplainRequest) × AsksForExplain words request × CutsExplained holds request old new))))))))

-- the demonstration ended by a fault of this status, which was told
pub record DemoStops (status : ℕ) (out : Stream) (err : Listener) : Type 0 where
  pub fault : Fault
  pub has : fault_status (fault_number fault) ≡ status
  pub stops : EndsBy fault demo_inputs out.old out.new 100
  pub told : IsToldText err (failure_line (failure.Fault fault))

-- a failure of this status, of which this holds, was told
pub record FailsWith (status : ℕ) (err : Listener) (P : Failure → Type 0) : Type 0 where
  pub failure : Failure
  pub has : fault_status (failure_number failure) ≡ status
  pub so : P failure
  pub told : IsToldText err (failure_line failure)

-- the file is a source with faults, which have status 2: they were told, each with its reason, as far as there was memory for that, and nothing is written
pub record IsFaulty (status : ℕ) (holds : List ℕ → List ℕ → Type 0) (request : ListRequest) (out : Stream) (err : Listener) : Type 0 where
  pub has : status ≡ 2
  pub text : List ℕ
  pub faults : List SourceFault
  pub are : HasFaults holds request text faults
  pub kept : Keeps out.old out.new
  pub told : TellsSome err [] (listed_faults request.file.now text faults)

-- so where the source was to run on the bare machine
pub record IsFaultyBare (status : ℕ) (holds : List ℕ → List ℕ → Type 0) (start : BareStart) (out : Stream) (err : Listener) : Type 0 where
  pub has : status ≡ 2
  pub text : List ℕ
  pub faults : List SourceFault
  pub are : HasBareFaults holds start text faults
  pub kept : Keeps out.old out.new
  pub told : TellsSome err [] (listed_faults start.source.now text faults)

-- a refusal of this status, of which this holds, was told
pub record RefusesWith (status : ℕ) (err : Listener) (P : Refused → Type 0) : Type 0 where
  pub refused : Refused
  pub has : fault_status (failure_number refused.failure) ≡ status
  pub so : P refused
  pub told : TellsSome err (failure_line refused.failure) (below_text refused)

-- there are notes that are taken for faults, which have status 2: they were told, and nothing is written
pub record IsNoted (status : ℕ) (holds : List ℕ → List ℕ → Type 0) (request : CheckRequest) (out : Stream) (err : Listener) : Type 0 where
  pub has : status ≡ 2
  pub notes : List ℕ
  pub are : HasNotes holds request notes
  pub kept : Keeps out.old out.new
  pub told : IsToldText err notes

-- what the words ask for is not done, for a cause that has this status and was told
abbrev pub IsStopped : ℕ → List Text → (List ℕ → List ℕ → Type 0) → (List ℕ → Type 0) → Stream → Listener → Type 0
IsStopped status words holds lacks out err =
    (AsksForDemo words × DemoStops status out err)
    ⊎ (((request : RunRequest) × AsksForRun words request × FailsWith status err (λ f. StopsBy f holds lacks request out.old out.new))
    ⊎ (((request : ListRequest) × AsksForList words request × (FailsWith status err (λ f. FailsBy f holds lacks request out.old out.new) ⊎ IsFaulty status holds request out err))
    ⊎ (((request : CheckRequest) × AsksForCheck words request × (RefusesWith status err (λ r. ChecksBy r holds lacks request out.old out.new) ⊎ IsNoted status holds request out err))
    ⊎ (((request : BareRequest) × AsksForBare words request × (FailsWith status err (λ f. BareFailsBy f holds lacks request out.old out.new) ⊎ IsFaultyBare status holds request.start out err))
    ⊎ (((request : TraceRequest) × AsksForTrace words request × FailsWith status err (λ f. TraceStopsBy f holds lacks request out.old out.new))
    ⊎ (((request : Request) × AsksForDebug words request × (FailsWith status err (λ f. DebugStopsBy f holds lacks request out.old out.new) ⊎ IsUnheard status holds request out.old out.new err))
    ⊎ ((request : ExplainRequest) × AsksForExplain words request × FailsWith status err (λ f. ExplainStopsBy f holds lacks request out.old out.new))))))))

-- nothing is written, and want of memory was told
abbrev pub WantsMemory : Stream → Listener → Type 0
WantsMemory out err = Keeps out.old out.new × IsToldText err (failure_line memory_failure)
