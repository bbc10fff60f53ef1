-- Why the program could not do what its words ask for, and what was written then.
use Rattle.std.specs.Prelude.{◌≡◌, ◌⊎◌, ℕ, Bool, List, None, Some, ⊤}
use Rattle.ds_station.specs.Headline.{Refuses}
use Rattle.ds_station.specs.declared.fault.Fault.TheVariants.{Memory}
use Rattle.ds_words.specs.declared.words.Request.{Request}
use Rattle.ds_drive.specs.declared.failure.Failure.{Failure}
use Rattle.ds_drive.specs.declared.failure.Failure.TheVariants as failure
use Rattle.ds_drive.specs.Inside.{outside_of}
use Rattle.ds_drive.specs.Failures.{IsNext, OfHeld, LacksFile, LacksSource}

-- the file of this name, which the words name, was not read: it is lacking, or memory ran out
abbrev pub IsUnread : (List ℕ → Type 0) → List ℕ → Failure → Type 0
IsUnread lacks name (failure.UnreadableFile told) = (told.now ≡ name) × lacks name
IsUnread lacks name (failure.Fault Memory) = ⊤
IsUnread lacks name f = ⊥

-- the file of one of these sources was not read, and those before it were
abbrev pub AreUnread : (List ℕ → List ℕ → Type 0) → (List ℕ → Type 0) → List (List ℕ) → Failure → Type 0
AreUnread holds lacks names (failure.UnreadableSource told) = IsNext holds names told × lacks told
AreUnread holds lacks names (failure.Fault Memory) = ⊤
AreUnread holds lacks names f = ⊥

-- the name of this source leads out of the folder in which these sources have to be
abbrev pub IsOutside : Bool → List (List ℕ) → Failure → Type 0
IsOutside inside names (failure.UnreadableSource told) = outside_of inside names ≡ Some told
IsOutside inside names f = ⊥

-- the name of one of these sources leads out of the folder in which they have to be; or none does, and the file of one was not read
abbrev pub AreUntaken : Bool → (List ℕ → List ℕ → Type 0) → (List ℕ → Type 0) → List (List ℕ) → Failure → Type 0
AreUntaken inside holds lacks names f = IsOutside inside names f ⊎ ((outside_of inside names ≡ None) × AreUnread holds lacks names f)

-- why not all that a run is made of is read: a file is lacking, memory ran out, or what was read is refused
abbrev pub IsUnreadRun : Failure → (List ℕ → List ℕ → Type 0) → (List ℕ → Type 0) → Request → Type 0
IsUnreadRun (failure.UnreadableFile name) holds lacks request = LacksFile holds lacks request name.now
IsUnreadRun (failure.UnreadableSource name) holds lacks request = LacksSource holds lacks request name
IsUnreadRun (failure.NoProcess process) holds lacks request = ⊥
IsUnreadRun (failure.Fault fault) holds lacks request = (fault ≡ Memory) ⊎ OfHeld holds request (λ read. Refuses fault read)
