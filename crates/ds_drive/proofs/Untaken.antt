-- Why clap refuses words.
use Rattle.std.proofs.Common.{◌≡◌, subst, inl, inr, List, []}
use Rattle.clap.specs.Words.{App, HasKind, IsAmong, Text, fault_of, kind_of}
use Rattle.clap.specs.declared.error.Error.{Error}
use Rattle.clap.specs.declared.error.kind.ErrorKind.TheVariants.{OutOfMemory}

-- words in which it finds no fault it refuses for memory alone
pub taken_for_memory : (app : App) (words : List Text) (e : Error) → fault_of app words ≡ [] → HasKind (fault_of app words) e → kind_of e ≡ OutOfMemory
taken_for_memory app words e taken (inl memory) = memory
taken_for_memory app words e taken (inr among) = absurd (subst (IsAmong (kind_of e)) taken among)
