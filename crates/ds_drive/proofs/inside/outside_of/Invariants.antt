use Rattle.std.proofs.Common.{◌≡◌, length}
use Rattle.ds_drive.specs.Inside.{outside_of}
use Rattle.ds_drive.proofs.inside.outside_of.Given as goal

abbrev pub invariant-loop-left : goal.invariant-loop-left
invariant-loop-left l = outside_of l.inside l.left ≡ outside_of l.inside l.names

abbrev pub decreases-loop-left : goal.decreases-loop-left
decreases-loop-left l = length l.left
