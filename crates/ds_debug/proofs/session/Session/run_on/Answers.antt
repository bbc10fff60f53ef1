use Rattle.std.proofs.Common.{◌≤◌, sym, subst, arith}
use Rattle.ds_refinement.specs.Inner.Runs.{RunsWithin}
use Rattle.ds_debug.specs.Inner.Inputs.{IsReached}
use Rattle.ds_debug.specs.Inner.Past.{PastState}
use Rattle.ds_debug.specs.Sessions.{SessionState}
use Rattle.ds_debug.proofs.Returning.{reached_on, within_later}
use Rattle.ds_debug.proofs.session.Session.run_on.Goals as goal

pub invariant_of-self : goal.invariant_of-self
invariant_of-self c =
    let inside = c.self.inside in
    let bound : c.bound_by-until.result ≤ inside.past.limit = omega (arith, c.bound_by-until.ensures.within, c.limit-limit.ensures.value) in
    record {
      limit = subst (λ (p : PastState). p.limit ≤ 1000000000) (sym c.go.ensures.past) c.self.invariant.limit;
      process = c.self.invariant.process;
      going = c.self.invariant.going;
      whole = c.go.ensures.whole;
      spent = λ going. c.in-Ok.ensures.spent;
      working = λ going. c.in-Ok.ensures.working;
      reached = λ going. subst (λ (p : PastState). IsReached p.inputs p.limit c.go.new.station.held) (sym c.go.ensures.past)
          (reached_on inside.past.inputs inside.past.limit inside.station.held c.go.new.station.held (c.self.invariant.reached going)
          (within_later c.bound_by-until.result inside.past.limit bound inside.station.held c.go.new.station.held c.go.ensures.within) c.in-Ok.ensures.real);
    }

pub returns-in-Ok-clause-within : goal.returns-in-Ok-clause-within
returns-in-Ok-clause-within c =
    let bound : c.bound_by-until.result ≤ c.self.inside.past.limit = omega (arith, c.bound_by-until.ensures.within, c.limit-limit.ensures.value) in
    subst (λ (s : SessionState). RunsWithin s.limit s.held c.go.new.station.held) c.self.view_is
    (within_later c.bound_by-until.result c.self.inside.past.limit bound c.self.inside.station.held c.go.new.station.held c.go.ensures.within)

pub returns-in-Err-clause-within : goal.returns-in-Err-clause-within
returns-in-Err-clause-within c =
    let bound : c.bound_by-until.result ≤ c.self.inside.past.limit = omega (arith, c.bound_by-until.ensures.within, c.limit-limit.ensures.value) in
    subst (λ (s : SessionState). RunsWithin s.limit s.held c.go.new.station.held) c.self.view_is
    (within_later c.bound_by-until.result c.self.inside.past.limit bound c.self.inside.station.held c.go.new.station.held c.go.ensures.within)
