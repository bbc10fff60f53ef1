-- What a session with a debugger over a run on the bare machine writes, and what is left where there is none.
use Rattle.std.specs.Prelude.{◌≡◌, ◌⊎◌, codes, false, ℕ, List, [], Option}
use Rattle.clap.specs.Words.{Text}
use Rattle.ds_policy.specs.declared.command.Character.{Character}
use Rattle.ds_bare.specs.Faults.{may_start}
use Rattle.ds_bare_debug.specs.Positions.{BareRun}
use Rattle.ds_bare_debug.specs.Serving.{CutsBareDebug, DebugsBare, IsUntouched}
use Rattle.ds_gdb.specs.Serving.{Pipes}
use Rattle.ds_gdb.specs.declared.serving.Ending.{Ending}
use Rattle.ds_gdb.specs.declared.serving.Ending.TheVariants.{Over, Unread}
use Rattle.ds_station.specs.declared.fault.Fault.TheVariants as fault
use Rattle.ds_words.specs.BareDebug.{AsksForBareDebug}
use Rattle.ds_words.specs.declared.words.BareStart.{BareStart}
use Rattle.ds_drive.specs.declared.failure.Failure.{Failure}
use Rattle.ds_drive.specs.declared.failure.Failure.TheVariants as failure
use Rattle.ds_drive.specs.BareRuns.{IsUnreadBare, OfBareRun}
use Rattle.ds_drive.specs.Done.{FailsWith, IsFaultyBare, WantsMemory, stream}
use Rattle.ds_drive.specs.Listening.{Listener, IsToldText}
use Rattle.ds_drive.specs.Reading.{AskedFile, HasStatus, ReadsAll, ReadsUntil, bare_names}

-- the run that starts so, of this image and these characters
abbrev pub bare_run : BareStart → List ℕ → List Character → BareRun
bare_run start image keys = record { image = image; random = start.random; keys = keys; limit = start.most }

-- a session over it was held to this end
abbrev pub HasDebuggedBare : Ending → (List ℕ → List ℕ → Type 0) → BareStart → Pipes → Type 0
HasDebuggedBare ending holds start p = OfBareRun holds start (λ image keys. DebugsBare ending (bare_run start image keys) p)

-- why it is refused, or ends early, and what it leaves
abbrev pub BareDebugEndsEarly : Failure → (List ℕ → List ℕ → Type 0) → BareStart → Pipes → Type 0
BareDebugEndsEarly (failure.Fault fault.BadRandom) holds start p = (may_start start.random ≡ false) × IsUntouched p
BareDebugEndsEarly (failure.Fault fault.WriteFault) holds start p = OfBareRun holds start (λ image keys. CutsBareDebug (bare_run start image keys) p)
BareDebugEndsEarly (failure.Fault fault.Memory) holds start p = OfBareRun holds start (λ image keys. CutsBareDebug (bare_run start image keys) p)
BareDebugEndsEarly f holds start p = ⊥

-- why each failure comes, and what it leaves: where the run can't begin nothing is read from gdb, or written
abbrev pub BareDebugFailsBy : Failure → (List ℕ → List ℕ → Type 0) → (List ℕ → Type 0) → BareStart → Pipes → Type 0
BareDebugFailsBy f holds lacks start p = (IsUnreadBare f holds lacks start × IsUntouched p) ⊎ BareDebugEndsEarly f holds start p

-- a session ended since a read failed, which has status 3 and was told
pub record IsUnheardBare (status : ℕ) (holds : List ℕ → List ℕ → Type 0) (start : BareStart) (p : Pipes) (err : Listener) : Type 0 where
  pub has : status ≡ 3
  pub so : HasDebuggedBare Unread holds start p
  pub told : IsToldText err (codes "dsmon: standard input could not be read\n")

-- the session that the words ask for was held to its end
abbrev pub IsBareDebugDone : List Text → (List ℕ → List ℕ → Type 0) → Pipes → Type 0
IsBareDebugDone words holds p = (start : BareStart) × AsksForBareDebug words start × HasDebuggedBare Over holds start p

-- it was not, for a cause that has this status and was told
abbrev pub IsBareDebugStopped : ℕ → List Text → (List ℕ → List ℕ → Type 0) → (List ℕ → Type 0) → Pipes → Listener → Type 0
IsBareDebugStopped status words holds lacks p err =
    ((status ≡ 3) × WantsMemory (stream p.old p.new) err)
    ⊎ ((start : BareStart) × AsksForBareDebug words start
    × (FailsWith status err (λ f. BareDebugFailsBy f holds lacks start p) ⊎ (IsFaultyBare status holds start (stream p.old p.new) err ⊎ IsUnheardBare status holds start p err)))

-- no file was asked for; or those that the words name, in their order, and no other
abbrev pub ReadsForBareDebug : ℕ → List Text → Option (List AskedFile) → Option (List AskedFile) → Type 0
ReadsForBareDebug status words old new =
    ReadsAll [] old new ⊎ ((start : BareStart) × AsksForBareDebug words start × ReadsUntil (HasStatus status) (bare_names start) old new)
