use Rattle.ds_kernel.specs.Inner.Parts.{held}
use Rattle.ds_kernel.proofs.Running.{ready_not_over}
use Rattle.ds_kernel.proofs.parts.Parts.begin.Goals as goal

pub returns-then-not-make_room-clause-halts : goal.returns-then-not-make_room-clause-halts
returns-then-not-make_room-clause-halts g c = (c.requires.working, c.if-self-eq0.true, ready_not_over (held c.args.self.now) c.requires.good.sound c.requires.unowed c.requires.ready)
