use Rattle.std.proofs.Common.{arith}
use Rattle.ds_procs.proofs.QueueLemmas.{length-lt-from_absent, IsQueue-push}
use Rattle.ds_procs.proofs.queue.Queue.push.Goals as goal

pub push-requires : goal.push-requires
push-requires c = (omega arith, length-lt-from_absent _ c.args.process c.self.invariant c.requires.number.0 c.requires.number.1 (rw c.self.view_is c.requires.absent))

pub invariant_of-self : goal.invariant_of-self
invariant_of-self c = rw c.push.ensures.items (IsQueue-push _ c.args.process c.self.invariant c.requires.number.0 c.requires.number.1 (rw c.self.view_is c.requires.absent))
