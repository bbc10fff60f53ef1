use Rattle.std.proofs.Common.{◌≤◌, length}
use Rattle.ds_debug.proofs.past.Past.seek.Given as goal

abbrev pub invariant-loop-count : goal.invariant-loop-count
invariant-loop-count l = record { within : l.count ≤ length l.self-inside.kept.items }

abbrev pub decreases-loop-count : goal.decreases-loop-count
decreases-loop-count l = l.count
