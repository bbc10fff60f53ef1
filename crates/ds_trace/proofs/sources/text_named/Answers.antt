use Rattle.std.proofs.Common.{sym, ◌∙◌}
use Rattle.ds_station.proofs.NamedTexts.{named_here, named_past, named_end}
use Rattle.ds_trace.proofs.sources.text_named.Goals as goal

pub returns-then-eq : goal.returns-then-eq
returns-then-eq c = sym (c.loop-source.invariant ∙ named_here c.args.sources.now c.loop-source.source-index _ c.args.name.now c.loop-source-test.true (sym c.eq.ensures ∙ c.if-eq.true))

pub loop-source-preserved : goal.loop-source-preserved
loop-source-preserved c = c.loop-source.invariant ∙ named_past c.args.sources.now c.loop-source.source-index _ c.args.name.now c.loop-source-test.true (sym c.eq.ensures ∙ c.if-eq.false)

pub returns : goal.returns
returns c = sym (c.loop-source.invariant ∙ named_end c.args.sources.now c.loop-source.source-index c.args.name.now c.loop-source-test.false)
