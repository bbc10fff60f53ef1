-- Which files a command asks for, in which order, and what came of it.
use Rattle.std.specs.Prelude.{◌≡◌, ◌⊎◌, ⊤, ℕ, List, [], ◌∷◌, ◌++◌, Option, None, Some, Result, Ok, Err, map}
use Rattle.std.specs.Borrow.{Bor}
use Rattle.clap.specs.Words.{Text}
use Rattle.ds_policy.specs.PolicyParts.{sources_of}
use Rattle.ds_policy.specs.PolicyText.{policy_of}
use Rattle.ds_policy.specs.Refusal.{PolicyRefusal}
use Rattle.ds_policy.specs.Value.{PolicyValue}
use Rattle.ds_words.specs.Words.{AsksForBare, AsksForCheck, AsksForDebug, AsksForExplain, AsksForList, AsksForRun, AsksForTrace}
use Rattle.ds_words.specs.declared.words.BareRequest.{BareRequest}
use Rattle.ds_words.specs.declared.words.BareStart.{BareStart}
use Rattle.ds_words.specs.declared.words.CheckRequest.{CheckRequest}
use Rattle.ds_words.specs.declared.words.ExplainRequest.{ExplainRequest}
use Rattle.ds_words.specs.declared.words.ListRequest.{ListRequest}
use Rattle.ds_words.specs.declared.words.Request.{Request}
use Rattle.ds_words.specs.declared.words.RunRequest.{RunRequest}
use Rattle.ds_words.specs.declared.words.TraceRequest.{TraceRequest}
use Rattle.ds_drive.specs.declared.files.FileFault.{FileFault}
use Rattle.ds_drive.specs.declared.files.FileFault.TheVariants as file

-- a file that was asked for: its name, and why it was not read, where it was not
abbrev pub AskedFile : Type 0
AskedFile = List ℕ × Option FileFault

-- why a file was not read, where it was not
abbrev pub why_unread : {T : Type 0} → Result T FileFault → Option FileFault
why_unread (Ok bytes) = None
why_unread (Err fault) = Some fault

-- where files that were asked for are counted, they are those from before and then these
abbrev pub HasAsked : Option (List AskedFile) → Option (List AskedFile) → List AskedFile → Type 0
HasAsked None new more = ⊤
HasAsked (Some old) new more = new ≡ Some (old ++ more)

-- files of these names that were read
abbrev pub all_read : List (List ℕ) → List AskedFile
all_read names = map (λ name. (name, None)) names

-- these files were asked for, one after the other, and read
pub record ReadsAll (names : List (List ℕ)) (old new : Option (List AskedFile)) : Type 0 where
  pub has : HasAsked old new (all_read names)

-- what was asked for are the first of these files, in their order; each was read but perhaps the last, and of the one that was not read, if there is one, this holds
abbrev pub AreInOrder : (Option (List ℕ × FileFault) → Type 0) → List (List ℕ) → List AskedFile → Type 0
AreInOrder P names [] = P None
AreInOrder P [] (asked ∷ more) = ⊥
AreInOrder P (name ∷ names) ((asked, None) ∷ more) = (asked ≡ name) × AreInOrder P names more
AreInOrder P (name ∷ names) ((asked, Some fault) ∷ more) = (asked ≡ name) × (more ≡ []) × P (Some (name, fault))

-- these files were asked for, one after the other, up to some place, and no longer than they were read; and of the one that was not, if there is one, this holds
pub record ReadsUntil (P : Option (List ℕ × FileFault) → Type 0) (names : List (List ℕ)) (old new : Option (List AskedFile)) : Type 0 where
  pub asked : List AskedFile
  pub has : HasAsked old new asked
  pub in_order : AreInOrder P names asked

-- the sources that a policy names; none where it is refused
abbrev pub sources_in : Result PolicyValue PolicyRefusal → List (List ℕ)
sources_in (Ok value) = sources_of value.pages
sources_in (Err refusal) = []

-- the file of an input, where one is named
abbrev pub input_names : Option (Bor (List ℕ)) → List (List ℕ)
input_names None = []
input_names (Some name) = name.now ∷ []

-- the files of a run on the bare machine: the source's, and then the input's
abbrev pub bare_names : BareStart → List (List ℕ)
bare_names start = start.source.now ∷ input_names start.keys

-- the files of a run: the policy's, then the input's, then those of the sources that a policy with this text names
abbrev pub run_names : List ℕ → List (List ℕ) → List ℕ → List (List ℕ)
run_names policy input text = policy ∷ (input ++ sources_in (policy_of text))

-- the files of a run were asked for up to some place: the policy's alone, or those that a text of it names
pub record ReadsRunUntil (P : Option (List ℕ × FileFault) → Type 0) (holds : List ℕ → List ℕ → Type 0) (policy : List ℕ) (input : List (List ℕ)) (old new : Option (List AskedFile)) : Type 0 where
  pub names : List (List ℕ)
  pub named : (names ≡ policy ∷ []) ⊎ ((text : List ℕ) × holds policy text × (names ≡ run_names policy input text))
  pub until : ReadsUntil P names old new

-- a file that can't be read is told by status 2, and want of memory at one by 3
abbrev pub HasStatus : ℕ → Option (List ℕ × FileFault) → Type 0
HasStatus status None = ⊤
HasStatus status (Some (name, file.Unreadable)) = status ≡ 2
HasStatus status (Some (name, file.Memory)) = status ≡ 3

-- no file was asked for; or those that the words and the policy name, in their order, and no other
abbrev pub ReadsFor : ℕ → List Text → (List ℕ → List ℕ → Type 0) → Option (List AskedFile) → Option (List AskedFile) → Type 0
ReadsFor status words holds old new =
    ReadsAll [] old new
    ⊎ (((request : RunRequest) × AsksForRun words request × ReadsRunUntil (HasStatus status) holds request.run.policy.now (request.run.input.now ∷ []) old new)
    ⊎ (((request : ListRequest) × AsksForList words request × ReadsUntil (HasStatus status) (request.file.now ∷ []) old new)
    ⊎ (((request : CheckRequest) × AsksForCheck words request × ReadsRunUntil (HasStatus status) holds request.policy.now (input_names request.input) old new)
    ⊎ (((request : BareRequest) × AsksForBare words request × ReadsUntil (HasStatus status) (bare_names request.start) old new)
    ⊎ (((request : TraceRequest) × AsksForTrace words request × ReadsRunUntil (HasStatus status) holds request.run.policy.now (request.run.input.now ∷ []) old new)
    ⊎ (((request : Request) × AsksForDebug words request × ReadsRunUntil (HasStatus status) holds request.policy.now (request.input.now ∷ []) old new)
    ⊎ ((request : ExplainRequest) × AsksForExplain words request × ReadsRunUntil (HasStatus status) holds request.run.policy.now (request.run.input.now ∷ []) old new)))))))
