use Rattle.ds_kernel.specs.Inner.Parts.{held}
use Rattle.ds_kernel.proofs.Bounding.{bounded_does}
use Rattle.ds_kernel.proofs.parts.Parts.boundary.Goals as goal

pub returns-clause-does : goal.returns-clause-does
returns-clause-does g c = bounded_does c.args.self.now c.requires.good c.requires.owed (held c.close_turn.new.self) c.close_turn.ensures.bounded
