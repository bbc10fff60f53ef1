-- What a session with a debugger over a run of files writes, and what is left where there is none.
use Rattle.std.specs.Prelude.{◌≡◌, ◌⊎◌, codes, ℕ, List, Option}
use Rattle.std.specs.Io.KnownBytes.{Keeps}
use Rattle.ds_policy.specs.Value.{PolicyValue}
use Rattle.ds_pagemap.specs.Inputs.{Sources}
use Rattle.ds_debug.specs.Inputs.{RunInputs}
use Rattle.ds_debug.specs.Serving.{Debugs, DebugsPart, IsLate}
use Rattle.ds_gdb.specs.Serving.{Pipes, pipes}
use Rattle.ds_gdb.specs.declared.serving.Ending.{Ending}
use Rattle.ds_gdb.specs.declared.serving.Ending.TheVariants.{Unread}
use Rattle.ds_station.specs.Headline.{Refuses}
use Rattle.ds_words.specs.declared.words.Request.{Request}
use Rattle.ds_drive.specs.declared.failure.Failure.{Failure}
use Rattle.ds_drive.specs.declared.failure.Failure.TheVariants as failure
use Rattle.ds_drive.specs.Failures.{FilesStop, HoldsInputs}
use Rattle.ds_drive.specs.Listening.{Listener, IsToldText}

-- of what the files hold, as a run begins with it, this holds
pub record OfRunInputs (holds : List ℕ → List ℕ → Type 0) (request : Request) (P : RunInputs → Type 0) : Type 0 where
  pub policy : PolicyValue
  pub sources : Sources
  pub input : List ℕ
  pub read : HoldsInputs holds request policy sources input
  pub so : P (record { policy = policy; sources = sources; input = input; random = request.random })

-- a session over a run of the files was held to this end
abbrev pub HasDebugged : Ending → (List ℕ → List ℕ → Type 0) → Request → Pipes → Type 0
HasDebugged ending holds request p = OfRunInputs holds request (λ i. Debugs ending i request.most_time p)

-- it was cut short
abbrev pub CutsDebug : (List ℕ → List ℕ → Type 0) → Request → Option (List ℕ) → Option (List ℕ) → Type 0
CutsDebug holds request old new = (unread left : Option (List ℕ)) × OfRunInputs holds request (λ i. DebugsPart i request.most_time (pipes unread left old new))

-- by this fault
abbrev pub IsCutBy : Failure → (List ℕ → List ℕ → Type 0) → Request → Option (List ℕ) → Option (List ℕ) → Type 0
IsCutBy (failure.Fault fault) holds request old new = IsLate fault × CutsDebug holds request old new
IsCutBy f holds request old new = ⊥

-- why each failure of a session comes, and what it leaves: where the files are not read or are refused nothing is written
abbrev pub DebugStopsBy : Failure → (List ℕ → List ℕ → Type 0) → (List ℕ → Type 0) → Request → Option (List ℕ) → Option (List ℕ) → Type 0
DebugStopsBy f holds lacks request old new =
    FilesStop (λ fault read. Refuses fault read × Keeps old new) (λ process. ⊥) f holds lacks request old new ⊎ IsCutBy f holds request old new

-- a session ended since a read failed, which has status 3 and was told
pub record IsUnheard (status : ℕ) (holds : List ℕ → List ℕ → Type 0) (request : Request) (old new : Option (List ℕ)) (err : Listener) : Type 0 where
  pub has : status ≡ 3
  pub unread : Option (List ℕ)
  pub left : Option (List ℕ)
  pub so : HasDebugged Unread holds request (pipes unread left old new)
  pub told : IsToldText err (codes "dsmon: standard input could not be read\n")
