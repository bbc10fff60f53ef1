use Rattle.ds_ahead.proofs.Runs.{keeps_apart}
use Rattle.ds_ahead.proofs.operations.put_half_apart.Goals as goal

pub returns-clause-frame : goal.returns-clause-frame
returns-clause-frame c = rw c.put_half.ensures (keeps_apart c.args.bus.now.memory c.args.own c.args.place _ c.memory_size-size.ensures.size c.requires.inside c.requires.apart)
