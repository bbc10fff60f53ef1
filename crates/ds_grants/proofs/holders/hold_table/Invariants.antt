use Rattle.ds_grants.proofs.HeldByAll.{HaveHeldRows}
use Rattle.ds_grants.proofs.holders.hold_table.Given as goal

abbrev pub invariant-loop-place : goal.invariant-loop-place
invariant-loop-place l = HaveHeldRows l.table l.place l.fn.holders l.holders
