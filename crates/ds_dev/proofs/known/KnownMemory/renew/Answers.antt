use Rattle.ds_dev.proofs.Sure.{nothing_sure}
use Rattle.ds_dev.proofs.known.KnownMemory.renew.Goals as goal

pub invariant_of-self-then-self : goal.invariant_of-self-then-self
invariant_of-self-then-self c = λ _. nothing_sure _ _ 2048 c.learn_words-changed.ensures.size
