use Rattle.ds_grants.proofs.HolderCounts.{AreAllReleased}
use Rattle.ds_grants.proofs.holders.release_all.Given as goal

abbrev pub invariant-loop-entry : goal.invariant-loop-entry
invariant-loop-entry l = AreAllReleased l.fn.holders l.holders l.entries l.entry-index
