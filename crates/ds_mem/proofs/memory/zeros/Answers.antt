use Rattle.ds_mem.specs.Memory.{zeros}
use Rattle.ds_mem.proofs.memory.zeros.Goals as goal

pub returns-in-Ok-clause-zero : goal.returns-in-Ok-clause-zero
unfolding zeros
returns-in-Ok-clause-zero c = c.in-Ok.ensures.items_if_clones_equal (λ y same. same)
