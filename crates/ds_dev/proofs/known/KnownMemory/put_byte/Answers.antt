use Rattle.std.proofs.Common.{arith}
use Rattle.ds_isa.specs.declared.instr.Size.TheVariants.{Byte}
use Rattle.ds_dev.proofs.Sure.{stored}
use Rattle.ds_dev.proofs.known.KnownMemory.put_byte.Goals as goal

pub invariant_of-self : goal.invariant_of-self
invariant_of-self c = λ whole. rw (c.put_byte.ensures.value, c.make_unsure.ensures) (stored c.self.inside.memory c.self.inside.pages c.self.inside.sure c.args.physical c.args.value Byte
    c.requires (omega arith) (c.self.invariant whole))
