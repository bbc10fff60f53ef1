use Rattle.ds_station.specs.Reads.{memory_held}
use Rattle.ds_trace.proofs.MemoryLines.{pieces_end, pieces_more}
use Rattle.ds_trace.proofs.memory.push_memory.Goals as goal

pub loop-index-preserved : goal.loop-index-preserved
loop-index-preserved g c =
    pieces_more (memory_held c.args.station.now.held) c.args.process c.args.address c.args.count c.loop-index.index _ _ _ c.loop-index-test.true c.in_ok-push_piece.ensures c.loop-index.invariant

pub returns : goal.returns
returns g c = pieces_end (memory_held c.args.station.now.held) c.args.process c.args.address c.args.count c.loop-index.index _ _ c.loop-index-test.false c.loop-index.invariant
