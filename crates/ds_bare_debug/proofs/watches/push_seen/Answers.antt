use Rattle.ds_bare_debug.proofs.Watching.{seen_end, seen_more, seen_start}
use Rattle.ds_bare_debug.proofs.watches.push_seen.Goals as goal

pub loop-index-init : goal.loop-index-init
loop-index-init c = seen_start c.args.machine.now c.args.watchpoint.address c.args.watchpoint.length _

pub loop-index-preserved : goal.loop-index-preserved
loop-index-preserved c =
    rw c.in_ok-push.ensures.items (seen_more c.args.machine.now c.args.watchpoint.address c.loop-index.index c.args.watchpoint.length c.loop-index.seen.items _ c.watched_at.result c.loop-index-test.true c.watched_at.ensures c.loop-index.invariant)

pub returns : goal.returns
returns c = seen_end c.args.machine.now c.args.watchpoint.address c.loop-index.index c.args.watchpoint.length _ _ c.loop-index-test.false c.loop-index.invariant
