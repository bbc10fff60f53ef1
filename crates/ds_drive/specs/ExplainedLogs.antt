-- What is written of an explained log of a run of files, and what is left where there is none.
use Rattle.std.specs.Prelude.{◌⊎◌, ℕ, List, Option, None, Some, Result}
use Rattle.std.specs.Io.KnownBytes.{Keeps}
use Rattle.ds_explain.specs.Explained.{WritesExplained, WritesExplainedPart}
use Rattle.ds_explain.specs.declared.chosen.Chosen.{Chosen}
use Rattle.ds_explain.specs.declared.chosen.Chosen.TheVariants.{All, One}
use Rattle.ds_log_reasons.specs.Sentences.{Context}
use Rattle.ds_pagemap.specs.Inputs.{Refusal, Sources}
use Rattle.ds_pagemap.specs.Machine.{State}
use Rattle.ds_policy.specs.Value.{PolicyValue}
use Rattle.ds_station.specs.Headline.{Begins, Refuses}
use Rattle.ds_station.specs.declared.fault.Fault.TheVariants as fault
use Rattle.ds_words.specs.declared.words.ExplainRequest.{ExplainRequest}
use Rattle.ds_words.specs.declared.words.Request.{Request}
use Rattle.ds_drive.specs.declared.failure.Failure.{Failure}
use Rattle.ds_drive.specs.declared.failure.Failure.TheVariants as failure
use Rattle.ds_drive.specs.Failures.{FilesStop, HoldsTexts}
use Rattle.ds_drive.specs.Noted.{images_of}
use Rattle.ds_drive.specs.Ran.{first_by}

-- the lines of a log that the words want: the one of a number, or the first 1,000
abbrev pub chosen_by : Option ℕ → Chosen
chosen_by None = All
chosen_by (Some number) = One number

-- what the words for a log are taken from: the text and the value of a policy, and its sources with the image of each
abbrev pub log_context : List ℕ → PolicyValue → Sources → Context
log_context text value sources = record { text = text; pages = value.pages; rules = value.rules; sources = record { sources = sources; images = images_of sources } }

-- of what the files hold, as a log is explained from it and as a run begins with it, this holds
pub record OfTexts (holds : List ℕ → List ℕ → Type 0) (request : Request) (P : Context → Result State Refusal → Type 0) : Type 0 where
  pub text : List ℕ
  pub value : PolicyValue
  pub sources : Sources
  pub input : List ℕ
  pub held : HoldsTexts holds request text value sources input
  pub so : P (log_context text value sources) (first_by value sources input request)

-- the log of a run of the files was explained
abbrev pub HasExplained : (List ℕ → List ℕ → Type 0) → ExplainRequest → Option (List ℕ) → Option (List ℕ) → Type 0
HasExplained holds request old new = OfTexts holds request.run (λ from read. Begins read (WritesExplained from (chosen_by request.line) old new request.run.most_time))

-- a front of that is written
abbrev pub CutsExplained : (List ℕ → List ℕ → Type 0) → ExplainRequest → Option (List ℕ) → Option (List ℕ) → Type 0
CutsExplained holds request old new = OfTexts holds request.run (λ from read. Begins read (WritesExplainedPart from (chosen_by request.line) old new request.run.most_time))

-- since a write failed
abbrev pub IsUnwrittenLog : Failure → (List ℕ → List ℕ → Type 0) → ExplainRequest → Option (List ℕ) → Option (List ℕ) → Type 0
IsUnwrittenLog (failure.Fault fault.WriteFault) holds request old new = CutsExplained holds request old new
IsUnwrittenLog f holds request old new = ⊥

-- why each failure of an explained log comes, and what it leaves: where the files are not read or are refused, or memory runs out, nothing is written
abbrev pub ExplainStopsBy : Failure → (List ℕ → List ℕ → Type 0) → (List ℕ → Type 0) → ExplainRequest → Option (List ℕ) → Option (List ℕ) → Type 0
ExplainStopsBy f holds lacks request old new =
    FilesStop (λ fault read. Refuses fault read × Keeps old new) (λ process. ⊥) f holds lacks request.run old new ⊎ IsUnwrittenLog f holds request old new
