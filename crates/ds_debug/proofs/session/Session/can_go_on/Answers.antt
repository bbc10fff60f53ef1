use Rattle.std.proofs.Common.{◌≡◌, Bool, true, false, refl, subst}
use Rattle.std.specs.Prelude.{not}
use Rattle.ds_debug.specs.Inner.Inputs.{IsReached}
use Rattle.ds_debug.specs.Sessions.{SessionState}
use Rattle.ds_debug.proofs.session.Session.can_go_on.Goals as goal

-- a run that can go on was not cut short
not_cut : (cut : Bool) → not cut ≡ true → cut ≡ false
not_cut true going = absurd (cc)
not_cut false going = refl

pub returns-clause-reached : goal.returns-clause-reached
returns-clause-reached c = λ going. subst (λ (s : SessionState). IsReached s.inputs s.limit s.held) c.self.view_is (c.self.invariant.reached (not_cut c.self.inside.cut going))
