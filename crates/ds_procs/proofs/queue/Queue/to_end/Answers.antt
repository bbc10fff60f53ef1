use Rattle.ds_procs.proofs.QueueLemmas.{absent-without}
use Rattle.ds_procs.proofs.queue.Queue.to_end.Goals as goal

pub push-requires-clause-absent : goal.push-requires-clause-absent
push-requires-clause-absent c = rw c.remove.ensures (absent-without _ c.args.process)
