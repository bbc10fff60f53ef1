use Rattle.ds_debug.proofs.Watching.{seen_end, seen_more, seen_start}
use Rattle.ds_debug.proofs.watches.push_seen.Goals as goal

pub loop-index-init : goal.loop-index-init
loop-index-init g c = seen_start c.args.station.now.held c.args.watchpoint c.args.watchpoint.length _

pub loop-index-preserved : goal.loop-index-preserved
loop-index-preserved g c =
    rw c.in_ok-push.ensures.items (seen_more c.args.station.now.held c.args.watchpoint c.loop-index.index c.args.watchpoint.length c.loop-index.seen.items _ c.seen_at.result c.loop-index-test.true c.seen_at.ensures c.loop-index.invariant)

pub returns : goal.returns
returns g c = seen_end c.args.station.now.held c.args.watchpoint c.loop-index.index c.args.watchpoint.length _ _ c.loop-index-test.false c.loop-index.invariant
