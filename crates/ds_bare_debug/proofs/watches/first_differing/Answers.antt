use Rattle.std.proofs.Common.{sym, ◌∙◌}
use Rattle.ds_bare_debug.proofs.Watching.{found_at, unfound_at}
use Rattle.ds_bare_debug.proofs.watches.first_differing.Goals as goal

pub returns-then-differs_from : goal.returns-then-differs_from
returns-then-differs_from c = sym (found_at c.args.machine.now c.args.seen.now c.loop-byte.byte-index _ c.loop-byte-test.true c.loop-byte.invariant (sym c.differs_from.ensures ∙ c.if-differs_from.true))

pub loop-byte-preserved : goal.loop-byte-preserved
loop-byte-preserved c = unfound_at c.args.machine.now c.args.seen.now c.loop-byte.byte-index _ c.loop-byte-test.true c.loop-byte.invariant (sym c.differs_from.ensures ∙ c.if-differs_from.false)
