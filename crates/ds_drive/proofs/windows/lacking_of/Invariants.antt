use Rattle.std.proofs.Common.{◌≡◌, length}
use Rattle.ds_drive.specs.Windows.{lacking_of}
use Rattle.ds_drive.proofs.windows.lacking_of.Given as goal

-- no window before what is left names a process that is not there
abbrev pub invariant-loop-left : goal.invariant-loop-left
invariant-loop-left l = lacking_of (length l.processes) l.left ≡ lacking_of (length l.processes) l.windows

abbrev pub decreases-loop-left : goal.decreases-loop-left
decreases-loop-left l = length l.left
