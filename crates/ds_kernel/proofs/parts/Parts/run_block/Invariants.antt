use Rattle.ds_kernel.specs.Inner.Parts.{held}
use Rattle.ds_kernel.specs.Inner.InBlock.{InBlock}
use Rattle.ds_kernel.proofs.parts.Parts.run_block.Given as goal

abbrev pub invariant-loop-left : goal.invariant-loop-left
invariant-loop-left g l = record {
  block : InBlock (held l.fn.self) l.n l.end l.mark l.left l.before l.self.core l.self;
}

abbrev pub decreases-loop-left : goal.decreases-loop-left
decreases-loop-left g l = l.left
