use Rattle.std.proofs.Common.{◌≡◌, take}
use Rattle.ds_bare.proofs.matches.entries_of.Given as goal

abbrev pub invariant-loop-slot : goal.invariant-loop-slot
invariant-loop-slot l = l.entries.items ≡ take l.slot l.core.entries
