use Rattle.std.proofs.Common.{◌≡◌}
use Rattle.ds_policy.specs.Ends.{expired_entry}
use Rattle.ds_policy.proofs.Rows.{done}
use Rattle.ds_policy.proofs.row_ends.expire.Given as goal

abbrev pub invariant-loop-i : goal.invariant-loop-i
invariant-loop-i l = l.entries ≡ done (expired_entry l.now) l.i l.fn.entries
