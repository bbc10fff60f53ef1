use Rattle.std.proofs.Common.{◌≡◌, map}
use Rattle.ds_policy.specs.Ends.{expired_entry}
use Rattle.ds_policy.proofs.Rows.{done}
use Rattle.ds_policy.proofs.ends.expire_all.Given as goal

abbrev pub invariant-loop-i : goal.invariant-loop-i
invariant-loop-i l = l.rows ≡ done (map (expired_entry l.now)) l.i l.fn.rows
