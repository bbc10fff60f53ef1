use Rattle.std.proofs.Common.{arith}
use Rattle.ds_isa.proofs.decoding.transfer.Goals as goal

pub returns-else-below_rd-eq0-clause-value : goal.returns-else-below_rd-eq0-clause-value
returns-else-below_rd-eq0-clause-value c = rw (c.requires.op, c.requires.high) (grind arith)

pub returns-else-below_rd-eq0-2-clause-value : goal.returns-else-below_rd-eq0-2-clause-value
returns-else-below_rd-eq0-2-clause-value c = rw (c.requires.op, c.requires.high) (grind arith)

pub returns-in_default-clause-value : goal.returns-in_default-clause-value
returns-in_default-clause-value c = rw (c.requires.op, c.requires.high) (grind arith)
