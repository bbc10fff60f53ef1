-- Which files a command asks for, in which order, and what came of it.
use Rattle.std.specs.Prelude.{◌≡◌, ⊤, ℕ, Bool, true, List, Option, None, Some}
use Rattle.ds_station.specs.declared.fault.Fault.TheVariants as fault
use Rattle.ds_drive.specs.declared.failure.Failure.{Failure}
use Rattle.ds_drive.specs.declared.failure.Failure.TheVariants as failure
use Rattle.ds_drive.specs.declared.files.FileFault.{FileFault}
use Rattle.ds_drive.specs.declared.files.FileFault.TheVariants as file
use Rattle.ds_drive.specs.Inside.{is_outside}
use Rattle.ds_drive.specs.Reading.{AskedFile, ReadsAll, run_names}

-- the failure tells of the file that was not read; and where each was read, of none
abbrev pub TellsOf : Failure → Option (List ℕ × FileFault) → Type 0
TellsOf (failure.Fault fault) None = ⊤
TellsOf (failure.NoProcess process) None = ⊤
TellsOf (failure.Fault fault.Memory) (Some (name, file.Memory)) = ⊤
TellsOf (failure.UnreadableFile told) (Some (name, file.Unreadable)) = told.now ≡ name
TellsOf (failure.UnreadableSource told) (Some (name, file.Unreadable)) = told ≡ name
TellsOf f unread = ⊥

-- so of a run; where it tells of a source that is outside the folder in which it has to be, each was read that was asked for
abbrev pub TellsOfRun : Bool → Failure → Option (List ℕ × FileFault) → Type 0
TellsOfRun inside (failure.UnreadableSource told) None = is_outside inside told ≡ true
TellsOfRun inside f unread = TellsOf f unread

-- the files of a run were read, the policy's as a text that names the sources
pub record ReadsRun (holds : List ℕ → List ℕ → Type 0) (policy : List ℕ) (input : List (List ℕ)) (old new : Option (List AskedFile)) : Type 0 where
  pub text : List ℕ
  pub held : holds policy text
  pub all : ReadsAll (run_names policy input text) old new
