use Rattle.ds_grants.proofs.HeldByAll.{HaveHeld}
use Rattle.ds_grants.proofs.holders.hold_all.Given as goal

abbrev pub invariant-loop-entry : goal.invariant-loop-entry
invariant-loop-entry l = HaveHeld l.entries l.entry-index l.fn.holders l.holders
