use Rattle.std.proofs.Common.{arith}
use Rattle.ds_isa.proofs.decoding.operation.Goals as goal

pub returns-in_default-clause-value : goal.returns-in_default-clause-value
returns-in_default-clause-value c = rw (c.requires.op, c.requires.high, c.requires.zero) (grind arith)
