-- What a run on the bare machine writes, and what is left where there is none.
use Rattle.std.specs.Prelude.{◌≡◌, ◌⊎◌, ⊤, ℕ, List, [], Option, Some, Ok, Err, true, false}
use Rattle.std.specs.Borrow.{Bor}
use Rattle.std.specs.Io.KnownBytes.{Keeps, Appends}
use Rattle.ds_asm.specs.declared.fault.SourceFault.{SourceFault}
use Rattle.ds_asm.specs.Assembly.{assembled}
use Rattle.ds_asm.specs.Faults.{all_faults}
use Rattle.ds_policy.specs.InputText.{input_of}
use Rattle.ds_policy.specs.declared.command.Character.{Character}
use Rattle.ds_text.specs.Sent.{AppendsPart}
use Rattle.ds_bare.specs.Faults.{may_start}
use Rattle.ds_bare.specs.Keys.{keys_in}
use Rattle.ds_bare.specs.Machine.{machine_at_start}
use Rattle.ds_bare.specs.Runs.{IsCutBetween, bare_text}
use Rattle.ds_station.specs.declared.fault.Fault.TheVariants as fault
use Rattle.ds_drive.specs.declared.failure.Failure.{Failure}
use Rattle.ds_drive.specs.declared.failure.Failure.TheVariants as failure
use Rattle.ds_drive.specs.Checked.{IsInput}
use Rattle.ds_words.specs.declared.words.BareRequest.{BareRequest}
use Rattle.ds_words.specs.declared.words.BareStart.{BareStart}

-- a source and an input, each as its file holds it, are good: the source has this image, and the
-- input's lines say these characters
pub record HoldsBare (holds : List ℕ → List ℕ → Type 0) (start : BareStart) (image : List ℕ) (keys : List Character) : Type 0 where
  pub source : List ℕ
  pub input : List ℕ
  pub source_held : holds start.source.now source
  pub input_held : IsInput holds start.keys input
  pub assembles : assembled source ≡ Ok image
  pub says : keys_in (input_of [] input) ≡ Ok keys

-- they are good, Random may start where it is wanted, and of the image and the characters this holds
pub record OfBareRun (holds : List ℕ → List ℕ → Type 0) (start : BareStart) (P : List ℕ → List Character → Type 0) : Type 0 where
  pub image : List ℕ
  pub keys : List Character
  pub held : HoldsBare holds start image keys
  pub starts : may_start start.random ≡ true
  pub so : P image keys

-- the text of their run is written
abbrev pub RunsBare : (List ℕ → List ℕ → Type 0) → BareRequest → Option (List ℕ) → Option (List ℕ) → Type 0
RunsBare holds request old new = OfBareRun holds request.start (λ image keys. Appends old new (bare_text request.view image request.start.random request.start.most keys))

-- a front of it is written
abbrev pub CutsBare : (List ℕ → List ℕ → Type 0) → BareRequest → Option (List ℕ) → Option (List ℕ) → Type 0
CutsBare holds request old new = OfBareRun holds request.start (λ image keys. AppendsPart old new (bare_text request.view image request.start.random request.start.most keys))

-- it was cut between two instructions
abbrev pub ShortBare : (List ℕ → List ℕ → Type 0) → BareRequest → Option (List ℕ) → Option (List ℕ) → Type 0
ShortBare holds request old new = OfBareRun holds request.start (λ image keys. IsCutBetween old new request.view request.start.most (machine_at_start image request.start.random keys))

-- the source's file holds this source, and these are its faults
pub record HasBareFaults (holds : List ℕ → List ℕ → Type 0) (start : BareStart) (text : List ℕ) (faults : List SourceFault) : Type 0 where
  pub held : holds start.source.now text
  pub first : SourceFault
  pub refused : assembled text ≡ Err first
  pub all : faults ≡ all_faults text

-- the input's file holds an input, and this is its first wrong line
pub record HasWrongLine (holds : List ℕ → List ℕ → Type 0) (start : BareStart) (line : ℕ) : Type 0 where
  pub input : List ℕ
  pub held : IsInput holds start.keys input
  pub wrong : input_of [] input ≡ Err line

-- this name is that of the source, or of the input where one is named
abbrev pub IsNamedByBare : BareStart → List ℕ → Type 0
IsNamedByBare start name = (name ≡ start.source.now) ⊎ ((input : Bor (List ℕ)) × (start.keys ≡ Some input) × (name ≡ input.now))

-- why a run can't begin: a file is lacking, a line of the input is wrong, or memory ran out
abbrev pub IsUnreadBare : Failure → (List ℕ → List ℕ → Type 0) → (List ℕ → Type 0) → BareStart → Type 0
IsUnreadBare (failure.UnreadableFile name) holds lacks start = IsNamedByBare start name.now × lacks name.now
IsUnreadBare (failure.Fault (fault.InputFault line)) holds lacks start = HasWrongLine holds start line
IsUnreadBare (failure.Fault fault.Memory) holds lacks start = ⊤
IsUnreadBare f holds lacks start = ⊥

-- why one that could is refused, or ends early, and what it leaves
abbrev pub BareEndsBy : Failure → (List ℕ → List ℕ → Type 0) → BareRequest → Option (List ℕ) → Option (List ℕ) → Type 0
BareEndsBy (failure.Fault fault.BadRandom) holds request old new = (may_start request.start.random ≡ false) × Keeps old new
BareEndsBy (failure.Fault fault.WriteFault) holds request old new = CutsBare holds request old new
BareEndsBy (failure.Fault fault.Memory) holds request old new = ShortBare holds request old new
BareEndsBy f holds request old new = ⊥

-- why each failure comes, and what it leaves: where the run can't begin nothing is written
abbrev pub BareFailsBy : Failure → (List ℕ → List ℕ → Type 0) → (List ℕ → Type 0) → BareRequest → Option (List ℕ) → Option (List ℕ) → Type 0
BareFailsBy f holds lacks request old new = (IsUnreadBare f holds lacks request.start × Keeps old new) ⊎ BareEndsBy f holds request old new
