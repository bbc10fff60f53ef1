-- What is on the writer where a run is done, refused or cut short.
use Rattle.std.proofs.Common.{◌⊎◌, inl, inr, ℕ, List, [], append-nil}
use Rattle.std.specs.Prelude.{Option, Result}
use Rattle.std.specs.Io.KnownBytes.{Keeps}
use Rattle.clap.specs.Words.{Text}
use Rattle.ds_pagemap.specs.Machine.{State}
use Rattle.ds_pagemap.specs.Text.{state_text}
use Rattle.ds_pagemap.specs.Inputs.{Refusal, inputs}
use Rattle.ds_station.specs.Headline.{Begins, EndsBy, WritesPart, WritesPrefix}
use Rattle.ds_station.specs.declared.fault.Fault.{Fault}
use Rattle.ds_station.specs.declared.fault.Fault.TheVariants as fault
use Rattle.ds_station.proofs.Headlines.{keeps_same}
use Rattle.ds_drive.specs.declared.failure.Failure.{Failure}
use Rattle.ds_drive.specs.declared.failure.Failure.TheVariants as failure
use Rattle.ds_drive.specs.declared.refused.Refused.{Refused}
use Rattle.ds_words.specs.declared.words.CheckRequest.{CheckRequest}
use Rattle.ds_words.specs.declared.words.ListRequest.{ListRequest}
use Rattle.ds_words.specs.declared.words.Request.{Request}
use Rattle.ds_words.specs.declared.words.RunRequest.{RunRequest}
use Rattle.ds_words.specs.Windows.{windows_in}
use Rattle.ds_drive.specs.Demo.{demo_inputs}
use Rattle.ds_drive.specs.Done.{IsCutShort}
use Rattle.ds_drive.specs.Failures.{CutsFiles, EndsThenBy, FilesStop, LacksProcess, OfHeld, StopsBy, WritesPartThen}
use Rattle.ds_drive.specs.Inner.Failures.{IsUnread}
use Rattle.ds_drive.proofs.Ending.{part_then}
use Rattle.ds_drive.specs.Checked.{ChecksBy}
use Rattle.ds_drive.specs.Listed.{FailsBy}
use Rattle.ds_words.specs.Words.{AsksForDemo, AsksForRun, AsksForList, AsksForCheck}

-- a whole text is a front of it
part_of_prefix : (old new : Option (List ℕ)) (n : ℕ) (first : State) → WritesPrefix old new n first → WritesPart old new n first
part_of_prefix old new n first w = record {
  last = w.last;
  prefix = w.prefix;
  written = record { part = state_text w.last; rest = []; whole = append-nil (state_text w.last); appends = w.written };
}

-- whatever the fault, nothing is written, or a front of the text of a run
cut_by : (f : Fault) (read : Result State Refusal) (old new : Option (List ℕ)) (n : ℕ) → EndsBy f read old new n
    → Keeps old new ⊎ Begins read (WritesPart old new n)
cut_by fault.Memory read old new n (inl kept) = inl kept
cut_by fault.Memory read old new n (inr b) = inr (b.0, b.1, part_of_prefix old new n b.0 b.2)
cut_by fault.Stuck read old new n w = absurd w
cut_by fault.WriteFault read old new n b = inr b
cut_by fault.Failed read old new n w = absurd w
cut_by f read old new n w = inl w.1

-- so where something may follow the text
cut_then_by : (f : Fault) (request : RunRequest) (read : Result State Refusal) (old new : Option (List ℕ)) → EndsThenBy f request read old new
    → Keeps old new ⊎ Begins read (WritesPartThen (windows_in request.extras.memory) old new request.run.most_time)
cut_then_by fault.Memory request read old new (inl (inl kept)) = inl kept
cut_then_by fault.Memory request read old new (inl (inr b)) = inr (b.0, b.1, part_then request old new b.0 (part_of_prefix old new request.run.most_time b.0 b.2))
cut_then_by fault.Memory request read old new (inr late) = inr late.1
cut_then_by fault.WriteFault request read old new b = inr b
cut_then_by fault.Stuck request read old new w = absurd w
cut_then_by fault.Failed request read old new w = absurd w
cut_then_by f request read old new w = inl w.1

-- whatever the failure over the files of a run, nothing is written, or what a fault leaves
pub files_cut_by : (ends : Fault → Result State Refusal → Type 0) (wanting : ℕ → Type 0) (Q : Result State Refusal → Type 0) (f : Failure) (holds : List ℕ → List ℕ → Type 0) (lacks : List ℕ → Type 0) (request : Request) (old new : Option (List ℕ))
    → ((e : Fault) (read : Result State Refusal) → ends e read → Keeps old new ⊎ Q read) → FilesStop ends wanting f holds lacks request old new → Keeps old new ⊎ OfHeld holds request Q
files_cut_by ends wanting Q (failure.UnreadableFile name) holds lacks request old new leaves stops = inl stops.1
files_cut_by ends wanting Q (failure.UnreadableSource name) holds lacks request old new leaves stops = inl stops.1
files_cut_by ends wanting Q (failure.NoProcess process) holds lacks request old new leaves stops = inl stops.1
files_cut_by ends wanting Q (failure.Fault f) holds lacks request old new leaves (inl memory) = inl memory.1
files_cut_by ends wanting Q (failure.Fault f) holds lacks request old new leaves (inr stops) =
    elim (leaves f (inputs stops.policy stops.sources stops.input request.most_time request.random) stops.so) [
      | inl kept ↦ inl kept
      | inr so ↦ inr (record { policy = stops.policy; sources = stops.sources; input = stops.input; held = stops.held; so = so })
    ]

-- of a run
run_leaves : (f : Failure) (holds : List ℕ → List ℕ → Type 0) (lacks : List ℕ → Type 0) (request : RunRequest) (old new : Option (List ℕ)) → StopsBy f holds lacks request old new → Keeps old new ⊎ CutsFiles holds request old new
run_leaves f holds lacks request old new stops =
    files_cut_by (λ e read. EndsThenBy e request read old new) (LacksProcess holds request.run (windows_in request.extras.memory))
    (λ read. Begins read (WritesPartThen (windows_in request.extras.memory) old new request.run.most_time)) f holds lacks request.run old new
    (λ e read ends. cut_then_by e request read old new ends) stops

-- where nothing was begun, nothing is written
pub nothing_written : (words : List Text) (holds : List ℕ → List ℕ → Type 0) (known : Option (List ℕ)) → IsCutShort words holds known known
nothing_written words holds known = inl (keeps_same known)

-- the demonstration's fault
pub demo_cut : (words : List Text) (holds : List ℕ → List ℕ → Type 0) (f : Fault) (old new : Option (List ℕ)) → AsksForDemo words → EndsBy f demo_inputs old new 100 → IsCutShort words holds old new
demo_cut words holds f old new asks ends = elim (cut_by f demo_inputs old new 100 ends) [
  | inl kept ↦ inl kept
  | inr cut ↦ inr (inl (asks, cut))
]

-- a failure of a run of files
pub run_cut : (words : List Text) (holds : List ℕ → List ℕ → Type 0) (lacks : List ℕ → Type 0) (request : RunRequest) (f : Failure) (old new : Option (List ℕ)) → AsksForRun words request → StopsBy f holds lacks request old new → IsCutShort words holds old new
run_cut words holds lacks request f old new asks stops = elim (run_leaves f holds lacks request old new stops) [
  | inl kept ↦ inl kept
  | inr cut ↦ inr (inr (inl (request, asks, cut)))
]

-- a failure of a listing
pub list_cut : (words : List Text) (holds : List ℕ → List ℕ → Type 0) (lacks : List ℕ → Type 0) (request : ListRequest) (f : Failure) (old new : Option (List ℕ)) → AsksForList words request → FailsBy f holds lacks request old new → IsCutShort words holds old new
list_cut words holds lacks request (failure.Fault fault.WriteFault) old new asks cut = inr (inr (inr (inl (request, asks, cut))))
list_cut words holds lacks request (failure.Fault fault.Memory) old new asks kept = inl kept
list_cut words holds lacks request (failure.UnreadableFile name) old new asks unread = inl unread.2
list_cut words holds lacks request f old new asks none = absurd none

-- where the file was not read, nothing is written
pub unread_keeps : (holds : List ℕ → List ℕ → Type 0) (lacks : List ℕ → Type 0) (request : ListRequest) (f : Failure) (known : Option (List ℕ)) → IsUnread lacks request.file.now f → FailsBy f holds lacks request known known
unread_keeps holds lacks request (failure.UnreadableFile name) known unread = (unread.0, unread.1, keeps_same known)
unread_keeps holds lacks request (failure.Fault fault.Memory) known unread = keeps_same known
unread_keeps holds lacks request f known none = absurd none

-- a check that was refused, or whose text did not go out whole
pub check_cut : (words : List Text) (holds : List ℕ → List ℕ → Type 0) (lacks : List ℕ → Type 0) (request : CheckRequest) (r : Refused) (old new : Option (List ℕ)) → AsksForCheck words request
    → ChecksBy r holds lacks request old new → IsCutShort words holds old new
check_cut words holds lacks request r old new asks (inl refused) = inl refused.1
check_cut words holds lacks request r old new asks (inr cut) = inr (inr (inr (inr (inl (request, asks, cut.1)))))
