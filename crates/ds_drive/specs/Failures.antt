-- Why the program could not do what its words ask for, and what was written then.
use Rattle.std.specs.Prelude.{◌≡◌, ◌⊎◌, ◌||◌, ◌++◌, ℕ, Bool, true, List, length, map, Option, None, Some, Result, Ok, All, Contains, is_some, take}
use Rattle.std.specs.Io.KnownBytes.{Keeps}
use Rattle.ds_policy.specs.PolicyText.{policy_of}
use Rattle.ds_policy.specs.PolicyParts.{sources_of}
use Rattle.ds_policy.specs.Value.{PolicyValue}
use Rattle.ds_pagemap.specs.Machine.{State}
use Rattle.ds_pagemap.specs.Run.{IsPrefix}
use Rattle.ds_pagemap.specs.Text.{state_text}
use Rattle.ds_pagemap.specs.Inputs.{Refusal, Sources, inputs}
use Rattle.ds_text.specs.Sent.{AppendsPart}
use Rattle.ds_station.specs.Faults.{fault_number}
use Rattle.ds_station.specs.Headline.{Begins, EndsBy}
use Rattle.ds_station.specs.declared.fault.Fault.{Fault}
use Rattle.ds_station.specs.declared.fault.Fault.TheVariants.{Memory}
use Rattle.ds_station.specs.declared.fault.Fault.TheVariants as fault
use Rattle.ds_words.specs.Windows.{windows_in}
use Rattle.ds_words.specs.declared.windows.Window.{Window}
use Rattle.ds_words.specs.declared.words.Request.{Request}
use Rattle.ds_words.specs.declared.words.RunRequest.{RunRequest}
use Rattle.ds_drive.specs.declared.failure.Failure.{Failure}
use Rattle.ds_drive.specs.declared.failure.Failure.TheVariants as failure
use Rattle.ds_drive.specs.Inside.{outside_of}
use Rattle.ds_drive.specs.Outcomes.{wants_more}
use Rattle.ds_drive.specs.Windows.{lacking_of, windows_text}

-- the number of a failure among the refusals
abbrev pub failure_number : Failure → ℕ
failure_number (failure.UnreadableFile name) = 26
failure_number (failure.UnreadableSource name) = 26
failure_number (failure.NoProcess process) = 12
failure_number (failure.Fault fault) = fault_number fault

-- the failure for want of memory
abbrev pub memory_failure : Failure
memory_failure = failure.Fault Memory

-- this file may be read
abbrev pub MayBeRead : (List ℕ → List ℕ → Type 0) → List ℕ → Type 0
MayBeRead holds file = (bytes : List ℕ) × holds file bytes

-- this is one of these names, and the files of those before it may be read
abbrev pub IsNext : (List ℕ → List ℕ → Type 0) → List (List ℕ) → List ℕ → Type 0
IsNext holds names name = (among : Contains names name) × All (MayBeRead holds) (take among.0 names)

-- the policy that this file holds names sources of which this one is not taken: its name leads out of the folder in which they have to be; or no name does, those before it may be read, and it is lacking
pub record LeavesSource (inside : Bool) (holds : List ℕ → List ℕ → Type 0) (lacks : List ℕ → Type 0) (file name : List ℕ) : Type 0 where
  pub policy : List ℕ
  pub value : PolicyValue
  pub held : holds file policy
  pub read : policy_of policy ≡ Ok value
  pub why : (outside_of inside (sources_of value.pages) ≡ Some name)
      ⊎ ((outside_of inside (sources_of value.pages) ≡ None) × IsNext holds (sources_of value.pages) name × lacks name)

-- a policy, the sources that it names and an input, each as its file holds it; no source is outside the folder in which they have to be
pub record AreHeld (holds : List ℕ → List ℕ → Type 0) (request : Request) (policy : List ℕ) (sources : Sources) (input : List ℕ) : Type 0 where
  pub policy_held : holds request.policy.now policy
  pub input_held : holds request.input.now input
  pub sources_held : All (λ s. holds s.0 s.1) sources
  pub sources_named : (value : PolicyValue) → policy_of policy ≡ Ok value → map (λ s. s.0) sources ≡ sources_of value.pages
  pub sources_inside : (value : PolicyValue) → policy_of policy ≡ Ok value → outside_of request.inside (sources_of value.pages) ≡ None

-- of such texts, read as a run is asked for by the words, this holds
pub record OfHeld (holds : List ℕ → List ℕ → Type 0) (request : Request) (P : Result State Refusal → Type 0) : Type 0 where
  pub policy : List ℕ
  pub sources : Sources
  pub input : List ℕ
  pub held : AreHeld holds request policy sources input
  pub so : P (inputs policy sources input request.most_time request.random)

-- they hold this text of a policy of this value, the sources that it names and this input
pub record HoldsTexts (holds : List ℕ → List ℕ → Type 0) (request : Request) (text : List ℕ) (value : PolicyValue) (sources : Sources) (input : List ℕ) : Type 0 where
  pub read : policy_of text ≡ Ok value
  pub held : AreHeld holds request text sources input

-- they hold a policy of this value, the sources that it names and this input
pub record HoldsInputs (holds : List ℕ → List ℕ → Type 0) (request : Request) (value : PolicyValue) (sources : Sources) (input : List ℕ) : Type 0 where
  pub policy : List ℕ
  pub read : policy_of policy ≡ Ok value
  pub held : AreHeld holds request policy sources input

-- of the files that the words name this is the first that is lacking: the policy's, or the input's where that of the policy was read
abbrev pub LacksFile : (List ℕ → List ℕ → Type 0) → (List ℕ → Type 0) → Request → List ℕ → Type 0
LacksFile holds lacks request name = ((name ≡ request.policy.now) ⊎ ((name ≡ request.input.now) × MayBeRead holds request.policy.now)) × lacks name

-- this source is not taken, where the file of the input was read
abbrev pub LacksSource : (List ℕ → List ℕ → Type 0) → (List ℕ → Type 0) → Request → List ℕ → Type 0
LacksSource holds lacks request name = MayBeRead holds request.input.now × LeavesSource request.inside holds lacks request.policy.now name

-- what was read has a policy without a process of this number, which a window names, and no window before it names another such
pub record LacksProcess (holds : List ℕ → List ℕ → Type 0) (request : Request) (windows : List Window) (process : ℕ) : Type 0 where
  pub value : PolicyValue
  pub sources : Sources
  pub input : List ℕ
  pub read : HoldsInputs holds request value sources input
  pub first : lacking_of (length value.processes) windows ≡ Some process

-- why each failure comes of what is done with the files of a run, and what it leaves: nothing is written before all files are read, nor where a process is wanted that `wanting` says is lacking, and without a run want of memory alone is told of as a fault; a run ends by a fault as `ends` has it
abbrev pub FilesStop : (Fault → Result State Refusal → Type 0) → (ℕ → Type 0) → Failure → (List ℕ → List ℕ → Type 0) → (List ℕ → Type 0) → Request → Option (List ℕ) → Option (List ℕ) → Type 0
FilesStop ends wanting (failure.UnreadableFile name) holds lacks request old new = LacksFile holds lacks request name.now × Keeps old new
FilesStop ends wanting (failure.UnreadableSource name) holds lacks request old new = LacksSource holds lacks request name × Keeps old new
FilesStop ends wanting (failure.NoProcess process) holds lacks request old new = wanting process × Keeps old new
FilesStop ends wanting (failure.Fault fault) holds lacks request old new = ((fault ≡ Memory) × Keeps old new) ⊎ OfHeld holds request (λ read. ends fault read)

-- a run was cut short between two turns, left, or ended, and a front of its text and of the lines of these windows is written
pub record WritesPartThen (windows : List Window) (old new : Option (List ℕ)) (n : ℕ) (first : State) : Type 0 where
  pub last : State
  pub prefix : IsPrefix n first last
  pub written : AppendsPart old new (state_text last ++ windows_text last windows)

-- this of the files
abbrev pub CutsFiles : (List ℕ → List ℕ → Type 0) → RunRequest → Option (List ℕ) → Option (List ℕ) → Type 0
CutsFiles holds request old new = OfHeld holds request.run (λ read. Begins read (WritesPartThen (windows_in request.extras.memory) old new request.run.most_time))

-- the words want something beside the text of a run, or bound it
abbrev pub asks_more : RunRequest → Bool
asks_more request = wants_more request.extras || is_some request.most

-- when each fault of a run comes, and what is written then; where the words want more than the text of the run, want of memory may come after it, too
abbrev pub EndsThenBy : Fault → RunRequest → Result State Refusal → Option (List ℕ) → Option (List ℕ) → Type 0
EndsThenBy fault.Memory request read old new =
    EndsBy fault.Memory read old new request.run.most_time ⊎ ((asks_more request ≡ true) × Begins read (WritesPartThen (windows_in request.extras.memory) old new request.run.most_time))
EndsThenBy fault.WriteFault request read old new = Begins read (WritesPartThen (windows_in request.extras.memory) old new request.run.most_time)
EndsThenBy f request read old new = EndsBy f read old new request.run.most_time

-- why each failure of a run comes, and what it leaves
abbrev pub StopsBy : Failure → (List ℕ → List ℕ → Type 0) → (List ℕ → Type 0) → RunRequest → Option (List ℕ) → Option (List ℕ) → Type 0
StopsBy f holds lacks request old new =
    FilesStop (λ fault read. EndsThenBy fault request read old new) (LacksProcess holds request.run (windows_in request.extras.memory)) f holds lacks request.run old new
