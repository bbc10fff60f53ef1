use Rattle.std.proofs.Common.{◌+◌, sym, ◌∙◌, arith}
use Rattle.ds_station.specs.Reads.{memory_held}
use Rattle.ds_debug.proofs.Bytes.{byte_past, bytes_end, bytes_more, bytes_stop}
use Rattle.ds_debug.proofs.memory.bytes_readable_from.Goals as goal

pub loop-index-preserved : goal.loop-index-preserved
loop-index-preserved g c =
    rw c.in_ok-push-in-Some.ensures.items (bytes_more (memory_held c.args.station.now.held) c.args.process c.args.address c.loop-index.index c.args.count c.in-Some.byte _ _ c.loop-index-test.true
    (sym c.in-Some.is ∙ c.byte_read.ensures) c.loop-index.invariant)

pub returns-in-None : goal.returns-in-None
returns-in-None g c =
    bytes_stop (memory_held c.args.station.now.held) c.args.process c.args.address c.loop-index.index c.args.count _ _ c.loop-index-test.true (sym c.in-None.is ∙ c.byte_read.ensures) c.loop-index.invariant

pub returns : goal.returns
returns g c = bytes_end (memory_held c.args.station.now.held) c.args.process c.args.address c.loop-index.index c.args.count _ _ c.loop-index-test.false c.loop-index.invariant

pub returns-then-address-index : goal.returns-then-address-index
returns-then-address-index g c =
    bytes_stop (memory_held c.args.station.now.held) c.args.process c.args.address c.loop-index.index c.args.count _ _ c.loop-index-test.true
    (byte_past (memory_held c.args.station.now.held) c.args.process (c.args.address + c.loop-index.index) (omega arith)) c.loop-index.invariant
