use Rattle.std.proofs.Common.{◌<◌, subst, sym, arith}
use Rattle.ds_asid.specs.Spaces.{Spaces}
use Rattle.ds_asid.proofs.Apart.{taken_apart}
use Rattle.ds_asid.proofs.numbers.Asids.hand_out.Goals as goal

pub invariant_of-self : goal.invariant_of-self
invariant_of-self c = taken_apart _ c.args.process c.self.invariant (omega arith) (subst (λ (s : Spaces). s.next < 64) (sym c.self.view_is) c.requires.left)

pub returns-clause-apart : goal.returns-clause-apart
returns-clause-apart c = taken_apart _ c.args.process c.self.invariant (omega arith) (subst (λ (s : Spaces). s.next < 64) (sym c.self.view_is) c.requires.left)
