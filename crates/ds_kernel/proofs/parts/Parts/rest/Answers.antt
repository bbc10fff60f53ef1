use Rattle.std.proofs.Common.{sym, ◌∙◌}
use Rattle.ds_kernel.proofs.Stepping.{over_does}
use Rattle.ds_kernel.proofs.parts.Parts.rest.Goals as goal

pub returns-then-is_over-clause-does : goal.returns-then-is_over-clause-does
returns-then-is_over-clause-does g c = over_does c.args.self.now c.requires.unowed c.requires.nobody (sym c.is_over.ensures ∙ c.if-is_over.true)
