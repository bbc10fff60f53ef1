use Rattle.std.proofs.Common.{◌≤◌, sym, subst, arith}
use Rattle.ds_refinement.proofs.RunSteps.{within_start}
use Rattle.ds_station.proofs.InPieces.{no_steps}
use Rattle.ds_debug.specs.Inner.Past.{PastState}
use Rattle.ds_debug.proofs.session.Session.new.Goals as goal

pub invariant_of-result : goal.invariant_of-result
invariant_of-result c = record {
  limit = subst (λ (p : PastState). p.limit ≤ 1000000000) (sym c.in-Ok.ensures.value) c.in-Ok.ensures.limit;
  process = omega arith;
  going = omega arith;
  whole = c.in-Ok-beginning.ensures.whole;
  spent = λ going. c.in-Ok-beginning.ensures.spent;
  working = λ going. c.in-Ok-beginning.ensures.working;
  reached = λ going. record {
    start = c.in-Ok-beginning.station.held;
    begins = c.in-Ok-beginning.ensures.begins;
    within = within_start c.in-Ok.past.limit c.in-Ok-beginning.station.held;
    path = no_steps c.in-Ok-beginning.station.held;
  };
}
