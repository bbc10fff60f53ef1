use Rattle.std.proofs.Common.{◌∙◌, ap, arith}
use Rattle.ds_bare.specs.Machine.{memory_with}
use Rattle.ds_bare.proofs.Memories.{memory_more}
use Rattle.ds_bare.proofs.machine.memory_with.Goals as goal

pub loop-page-preserved : goal.loop-page-preserved
loop-page-preserved c = memory_more c.args.image.now c.loop-page.memory c.from.result c.loop-page.page c.page.new.page c.loop-page.invariant c.from.ensures c.page.ensures

pub returns : goal.returns
returns c = c.loop-page.invariant ∙ ap (memory_with c.args.image.now) (omega (arith, c.loop-page-test.false, c.loop-page.auto.page-end))
