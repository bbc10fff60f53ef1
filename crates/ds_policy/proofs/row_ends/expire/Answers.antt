use Rattle.std.proofs.Common.{arith}
use Rattle.ds_policy.specs.Ends.{expired_entry}
use Rattle.ds_policy.proofs.Rows.{next_set, all_done}
use Rattle.ds_policy.proofs.row_ends.expire.Goals as goal

pub loop-i-preserved : goal.loop-i-preserved
loop-i-preserved c = next_set (expired_entry c.args.now) c.loop-i.i c.args.entries.now c.loop-i.entries _ c.expired_entry.result (omega arith) c.loop-i.invariant c.expired_entry.ensures

pub returns : goal.returns
returns c = all_done (expired_entry c.args.now) c.loop-i.i c.args.entries.now c.loop-i.entries (omega arith) c.loop-i.invariant
