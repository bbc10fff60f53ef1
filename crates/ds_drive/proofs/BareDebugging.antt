-- Why there is no session over a run on the bare machine, and what it leaves; and how one ended.
use Rattle.std.proofs.Common.{◌≡◌, inl, inr, ℕ, List, [], subst, sym}
use Rattle.std.specs.Prelude.{Option, Result, Ok, codes}
use Rattle.clap.specs.Words.{Text}
use Rattle.ds_policy.specs.declared.command.Character.{Character}
use Rattle.ds_bare.specs.declared.fault.BareFault.{BareFault}
use Rattle.ds_bare.specs.declared.fault.BareFault.TheVariants as bare
use Rattle.ds_bare_debug.specs.Serving.{BareDebugEndsBy, DebugsBare, IsUntouched}
use Rattle.ds_gdb.specs.Serving.{Pipes, pipes}
use Rattle.ds_gdb.specs.declared.serving.Ending.{Ending}
use Rattle.ds_gdb.specs.declared.serving.Ending.TheVariants.{Over, Unread}
use Rattle.ds_station.proofs.Headlines.{keeps_same}
use Rattle.ds_words.specs.BareDebug.{AsksForBareDebug}
use Rattle.ds_words.specs.declared.words.BareStart.{BareStart}
use Rattle.ds_drive.specs.declared.failure.Failure.{Failure}
use Rattle.ds_drive.specs.declared.failure.Failure.TheVariants as failure
use Rattle.ds_drive.specs.declared.refused.FaultySource.{FaultySource}
use Rattle.ds_drive.specs.BareDebugged.{BareDebugFailsBy, HasDebuggedBare, IsBareDebugDone, IsBareDebugStopped, ReadsForBareDebug, bare_run}
use Rattle.ds_drive.specs.BareRuns.{HasBareFaults, HoldsBare, IsUnreadBare}
use Rattle.ds_drive.specs.Done.{WantsMemory, stream}
use Rattle.ds_drive.specs.Failures.{failure_number}
use Rattle.ds_drive.specs.Inner.BareDebugged.{IsBareSession}
use Rattle.ds_drive.specs.Inner.BareRuns.{of_bare}
use Rattle.ds_drive.specs.Inner.Reading.{TellsOf}
use Rattle.ds_drive.specs.Listening.{Listener, IsToldText, TellsSome}
use Rattle.ds_drive.specs.Reading.{AskedFile, HasStatus, ReadsAll, ReadsUntil, bare_names}
use Rattle.ds_drive.specs.Statuses.{fault_status}
use Rattle.ds_drive.specs.Told.{failure_line, listed_faults}
use Rattle.ds_drive.proofs.ReadingStatuses.{has_status}
use Rattle.ds_drive.proofs.Readings.{none_read, read_all, until_so}

-- nothing was read or written
pub untouched : (unread known : Option (List ℕ)) → IsUntouched (pipes unread unread known known)
untouched unread known = (keeps_same unread, keeps_same known)

module _ (holds : List ℕ → List ℕ → Type 0) (lacks : List ℕ → Type 0) (start : BareStart) where
  -- the run can't begin
  pub never_held : (f : Failure) (unread known : Option (List ℕ)) → IsUnreadBare f holds lacks start → BareDebugFailsBy f holds lacks start (pipes unread unread known known)
  never_held f unread known so = inl (so, untouched unread known)

  module _ (image : List ℕ) (keys : List Character) (p : Pipes) (held : HoldsBare holds start image keys) where
    -- a session was held to an end
    pub session_held : (ending : Ending) → DebugsBare ending (bare_run start image keys) p → HasDebuggedBare ending holds start p
    session_held ending d = record { image = image; keys = keys; held = held; starts = d.starts; so = d }

    -- or a fault ended it
    pub session_ends : (e : BareFault) → BareDebugEndsBy e (bare_run start image keys) p → BareDebugFailsBy (failure.Fault (of_bare e)) holds lacks start p
    session_ends bare.BadRandom refused = inr refused
    session_ends bare.WriteFault cut = inr (record { image = image; keys = keys; held = held; starts = cut.starts; so = cut })
    session_ends bare.Memory (inl none) = inl (tt, none)
    session_ends bare.Memory (inr cut) = inr (record { image = image; keys = keys; held = held; starts = cut.starts; so = cut })

module _ (words : List Text) (holds : List ℕ → List ℕ → Type 0) (lacks : List ℕ → Type 0) (start : BareStart) (p : Pipes) (err : Listener) (asks : AsksForBareDebug words start) where
  pub session_done : (came : Result Ending FaultySource) → came ≡ Ok Over → IsBareSession came holds start p → IsBareDebugDone words holds p
  session_done came is so = (start, asks, subst (λ (x : Result Ending FaultySource). IsBareSession x holds start p) is so)

  pub session_unheard : (came : Result Ending FaultySource) (status : ℕ) → came ≡ Ok Unread → status ≡ 3 → IsBareSession came holds start p
      → IsToldText err (codes "dsmon: standard input could not be read\n") → IsBareDebugStopped status words holds lacks p err
  session_unheard came status is has so told =
      inr (start, asks, inr (inr (record { has = has; so = subst (λ (x : Result Ending FaultySource). IsBareSession x holds start p) is so; told = told })))

  pub session_faulty : (source : FaultySource) (status : ℕ) → status ≡ 2 → HasBareFaults holds start source.text.items source.faults.items → IsUntouched p
      → TellsSome err [] (listed_faults start.source.now source.text.items source.faults.items) → IsBareDebugStopped status words holds lacks p err
  session_faulty source status has are kept told =
      inr (start, asks, inr (inl (record { has = has; text = source.text.items; faults = source.faults.items; are = are; kept = kept.1; told = told })))

  pub session_fails : (f : Failure) (status : ℕ) → status ≡ fault_status (failure_number f) → BareDebugFailsBy f holds lacks start p → IsToldText err (failure_line f) → IsBareDebugStopped status words holds lacks p err
  session_fails f status has fails told = inr (start, asks, inl (record { failure = f; has = sym has; so = fails; told = told }))

-- memory ran out at the words
pub words_want : (words : List Text) (holds : List ℕ → List ℕ → Type 0) (lacks : List ℕ → Type 0) (p : Pipes) (err : Listener) (status : ℕ) → status ≡ 3 → WantsMemory (stream p.old p.new) err → IsBareDebugStopped status words holds lacks p err
words_want words holds lacks p err status has wants = inl (has, wants)

module _ (status : ℕ) (words : List Text) (old new : Option (List AskedFile)) where
  pub session_reads : (start : BareStart) → AsksForBareDebug words start → ReadsAll (bare_names start) old new → ReadsForBareDebug status words old new
  session_reads start asks r = inr (start, asks, read_all (HasStatus status) (bare_names start) old new r tt)

  pub session_reads_until : (start : BareStart) (f : Failure) → status ≡ fault_status (failure_number f) → AsksForBareDebug words start → ReadsUntil (TellsOf f) (bare_names start) old new → ReadsForBareDebug status words old new
  session_reads_until start f has asks r = inr (start, asks, until_so (TellsOf f) (HasStatus status) (λ u t. has_status f status u has t) (bare_names start) old new r)

pub session_unasked : (status : ℕ) (words : List Text) (known : Option (List AskedFile)) → ReadsForBareDebug status words known known
session_unasked status words known = inl (none_read known)
