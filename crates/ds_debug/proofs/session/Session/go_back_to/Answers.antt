use Rattle.std.proofs.Common.{ℕ, ◌≤◌, Option, sym, subst}
use Rattle.std.specs.Prelude.{IfSome}
use Rattle.ds_debug.specs.Sessions.{SessionState}
use Rattle.ds_debug.proofs.Returning.{reached_at}
use Rattle.ds_debug.proofs.session.Session.go_back_to.Goals as goal

pub invariant_of-self : goal.invariant_of-self
invariant_of-self c =
    let early : c.in-Some.time ≤ c.args.self.now.limit = subst (λ (o : Option ℕ). IfSome o (λ t. t ≤ c.args.self.now.limit)) c.in-Some.is c.requires.early in
    record {
      limit = c.self.invariant.limit;
      process = c.self.invariant.process;
      going = c.self.invariant.going;
      whole = c.in-Ok.ensures.whole;
      spent = λ going. c.in-Ok.ensures.spent;
      working = λ going. c.in-Ok.ensures.working;
      reached = λ going. reached_at c.self.inside.past.inputs c.self.inside.past.limit c.in-Some.time c.in-Ok.station.held (subst (λ (s : SessionState). c.in-Some.time ≤ s.limit) (sym c.self.view_is) early) c.in-Ok.ensures.at;
    }
