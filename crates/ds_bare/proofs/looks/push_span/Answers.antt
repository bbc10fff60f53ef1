use Rattle.ds_bare.proofs.Words.{pieces_end, pieces_more}
use Rattle.ds_bare.proofs.looks.push_span.Goals as goal

pub loop-index-preserved : goal.loop-index-preserved
loop-index-preserved c =
    pieces_more c.args.bus.now c.loop-index.place _ c.args.span.now.count c.loop-index.index _ _ _ c.loop-index-test.true c.in_ok-push_piece.ensures c.wrapping_sum-place.ensures c.loop-index.invariant

pub returns : goal.returns
returns c = pieces_end c.args.bus.now c.loop-index.place c.args.span.now.count c.loop-index.index _ _ c.loop-index-test.false c.loop-index.invariant
