-- What a check of a policy explains, and what is left where it refuses.
use Rattle.std.specs.Prelude.{ℕ, List, Option, None, Some}
use Rattle.std.specs.Borrow.{Bor}
use Rattle.std.specs.Io.KnownBytes.{Keeps}
use Rattle.ds_drive.specs.declared.failure.Failure.{Failure}
use Rattle.ds_drive.specs.Inner.Failures.{IsUnread}
use Rattle.ds_drive.specs.declared.check.Checking.{Checking}
use Rattle.ds_drive.specs.declared.check.Checking.TheVariants as checking
use Rattle.ds_words.specs.declared.words.CheckRequest.{CheckRequest}
use Rattle.ds_drive.specs.Checked.{ExplainsCheck, HasNotes}

-- what comes of a check: the explanation and the notes are written; or there are notes that are taken for faults, and nothing is
abbrev pub Checks : Checking → (List ℕ → List ℕ → Type 0) → CheckRequest → Option (List ℕ) → Option (List ℕ) → Type 0
Checks checking.Explained holds request old new = ExplainsCheck holds request old new
Checks (checking.Noted notes) holds request old new = HasNotes holds request notes.items × Keeps old new

-- the file of the input was not read
abbrev pub IsUnreadInput : (List ℕ → Type 0) → Option (Bor (List ℕ)) → Failure → Type 0
IsUnreadInput lacks None f = ⊥
IsUnreadInput lacks (Some name) f = IsUnread lacks name.now f
