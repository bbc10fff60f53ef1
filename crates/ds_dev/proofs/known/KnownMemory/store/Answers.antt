use Rattle.ds_dev.proofs.Sure.{stored}
use Rattle.ds_dev.proofs.known.KnownMemory.store.Goals as goal

pub invariant_of-self : goal.invariant_of-self
invariant_of-self c = λ whole. rw (c.store.ensures, c.make_unsure.ensures) (stored c.self.inside.memory c.self.inside.pages c.self.inside.sure c.args.physical c.args.value c.args.size
    c.requires.in_range c.requires.aligned (c.self.invariant whole))
