use Rattle.std.proofs.Common.{arith}
use Rattle.ds_isa.proofs.decoding.system.Goals as goal

pub returns-else-middle-eq0-clause-value : goal.returns-else-middle-eq0-clause-value
returns-else-middle-eq0-clause-value c = rw (c.requires) (grind arith)
