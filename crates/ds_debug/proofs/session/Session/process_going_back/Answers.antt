use Rattle.std.proofs.Common.{◌<◌, ℕ, sym, subst}
use Rattle.ds_debug.proofs.Returning.{back_small}
use Rattle.ds_debug.proofs.session.Session.process_going_back.Goals as goal

pub returns-clause-small : goal.returns-clause-small
returns-clause-small c = subst (λ (n : ℕ). n < 256) (sym c.named_or.ensures) (back_small c.self.inside.going c.self.inside.process c.self.invariant.going c.self.invariant.process)
