use Rattle.std.proofs.Common.{◌≡◌, length}
use Rattle.ds_drive.specs.Inside.{goes_up}
use Rattle.ds_drive.proofs.inside.goes_up.Given as goal

abbrev pub invariant-loop-left : goal.invariant-loop-left
invariant-loop-left l = goes_up l.left ≡ goes_up l.name

abbrev pub decreases-loop-left : goal.decreases-loop-left
decreases-loop-left l = length l.left
