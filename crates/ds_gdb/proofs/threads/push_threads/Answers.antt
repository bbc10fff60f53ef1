use Rattle.ds_gdb.specs.Threads.{listed_thread}
use Rattle.ds_gdb.proofs.Pieces.{each_end, each_more, each_start}
use Rattle.ds_gdb.proofs.threads.push_threads.Goals as goal

pub loop-index-init : goal.loop-index-init
loop-index-init c = each_start listed_thread c.args.count _

pub loop-index-preserved : goal.loop-index-preserved
loop-index-preserved c = each_more listed_thread c.loop-index.index c.args.count _ _ _ c.loop-index-test.true c.in_ok-push_listed.ensures c.loop-index.invariant

pub returns : goal.returns
returns c = each_end listed_thread c.loop-index.index c.args.count _ _ c.loop-index-test.false c.loop-index.invariant
