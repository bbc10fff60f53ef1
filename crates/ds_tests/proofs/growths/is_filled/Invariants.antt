use Rattle.std.proofs.Common.{◌≤◌, length}
use Rattle.ds_tests.proofs.growths.is_filled.Given as goal

abbrev pub invariant-loop-i : goal.invariant-loop-i
invariant-loop-i l = 1 ≤ length l.table
