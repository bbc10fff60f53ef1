use Rattle.std.proofs.Common.{sym, ◌∙◌}
use Rattle.ds_bare_debug.proofs.Bytes.{bytes_end, bytes_more, bytes_stop}
use Rattle.ds_bare_debug.proofs.memory.bytes_seen.Goals as goal

pub loop-preserved : goal.loop-preserved
loop-preserved c =
    rw c.in_ok-push-in-Some.ensures.items (bytes_more c.args.machine.now c.loop.place c.wrapping_sum-place.result c.loop.counter c.args.count c.in-Some.byte _ _ c.loop-test.true (sym c.in-Some.is ∙ c.byte_seen.ensures) c.wrapping_sum-place.ensures
    c.loop.invariant)

pub returns-in-None : goal.returns-in-None
returns-in-None c = bytes_stop c.args.machine.now c.loop.place c.loop.counter c.args.count _ _ c.loop-test.true (sym c.in-None.is ∙ c.byte_seen.ensures) c.loop.invariant

pub returns : goal.returns
returns c = bytes_end c.args.machine.now c.loop.place c.loop.counter c.args.count _ _ c.loop-test.false c.loop.invariant
