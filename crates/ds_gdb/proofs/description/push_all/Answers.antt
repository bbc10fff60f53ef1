use Rattle.ds_gdb.specs.Description.{lettered_line}
use Rattle.ds_gdb.proofs.Pieces.{each_end, each_more, each_start}
use Rattle.ds_gdb.proofs.description.push_all.Goals as goal

pub loop-index-init : goal.loop-index-init
loop-index-init c = each_start (lettered_line c.args.letter c.args.first) 32 _

pub loop-index-preserved : goal.loop-index-preserved
loop-index-preserved c =
    each_more (lettered_line c.args.letter c.args.first) c.loop-index.index 32 _ _ _ c.loop-index-test.true c.in_ok-push_lettered.ensures c.loop-index.invariant

pub returns : goal.returns
returns c = each_end (lettered_line c.args.letter c.args.first) c.loop-index.index 32 _ _ c.loop-index-test.false c.loop-index.invariant
