use Rattle.std.proofs.Common.{map, arith}
use Rattle.ds_policy.specs.Ends.{expired_entry}
use Rattle.ds_policy.proofs.Rows.{next_set, all_done}
use Rattle.ds_policy.proofs.ends.expire_all.Goals as goal

pub loop-i-preserved : goal.loop-i-preserved
loop-i-preserved c =
    next_set (map (expired_entry c.args.now)) c.loop-i.i c.args.rows.now c.loop-i.rows c.index-rows-i.result c.expire.new.self (omega arith) c.loop-i.invariant c.expire.ensures

pub returns : goal.returns
returns c = all_done (map (expired_entry c.args.now)) c.loop-i.i c.args.rows.now c.loop-i.rows (omega arith) c.loop-i.invariant
