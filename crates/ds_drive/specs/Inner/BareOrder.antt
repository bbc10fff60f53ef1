-- What is good where a run on the bare machine is refused for what comes after it.
use Rattle.std.specs.Prelude.{◌≡◌, ⊤, ℕ, List, [], Ok}
use Rattle.ds_asm.specs.Assembly.{assembled}
use Rattle.ds_policy.specs.InputText.{input_of}
use Rattle.ds_policy.specs.declared.command.Character.{Character}
use Rattle.ds_bare.specs.Keys.{keys_in}
use Rattle.ds_station.specs.declared.fault.Fault.TheVariants as fault
use Rattle.ds_drive.specs.declared.failure.Failure.{Failure}
use Rattle.ds_drive.specs.declared.failure.Failure.TheVariants as failure
use Rattle.ds_drive.specs.Checked.{IsInput}
use Rattle.ds_words.specs.declared.words.BareStart.{BareStart}

-- the source's file holds a source that has an image
pub record HasImage (holds : List ℕ → List ℕ → Type 0) (start : BareStart) : Type 0 where
  pub source : List ℕ
  pub held : holds start.source.now source
  pub image : List ℕ
  pub assembles : assembled source ≡ Ok image

-- the input's file holds an input whose lines say characters
pub record HasKeys (holds : List ℕ → List ℕ → Type 0) (start : BareStart) : Type 0 where
  pub input : List ℕ
  pub held : IsInput holds start.keys input
  pub keys : List Character
  pub says : keys_in (input_of [] input) ≡ Ok keys

-- a line of the input is refused where the source is good, and the start of Random where both are
abbrev pub IsRefusedAfter : Failure → (List ℕ → List ℕ → Type 0) → BareStart → Type 0
IsRefusedAfter (failure.Fault (fault.InputFault line)) holds start = HasImage holds start
IsRefusedAfter (failure.Fault fault.BadRandom) holds start = HasImage holds start × HasKeys holds start
IsRefusedAfter f holds start = ⊤
