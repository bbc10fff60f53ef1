use Rattle.ds_dev.proofs.Sure.{given}
use Rattle.ds_dev.proofs.known.KnownMemory.give.Goals as goal

pub invariant_of-self : goal.invariant_of-self
invariant_of-self c = λ whole. rw c.put.ensures (given c.self.inside.memory c.self.inside.pages c.self.inside.sure c.args.frame c.args.page
    (rw c.self.view_is c.requires.holds) (c.self.invariant whole))
