-- What is told to a place that takes bytes.
use Rattle.std.specs.Prelude.{Bool, true, false, Result, Ok, Err}
use Rattle.ds_drive.specs.declared.faults.Untold.{Untold}
use Rattle.ds_drive.specs.declared.faults.Untold.TheVariants.{Unwritten, NoMemory}

-- a result says that a write failed
abbrev pub is_unwritten : {T : Type 0} → Result T Untold → Bool
is_unwritten (Ok x) = false
is_unwritten (Err Unwritten) = true
is_unwritten (Err NoMemory) = false
