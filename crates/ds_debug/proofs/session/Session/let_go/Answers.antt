use Rattle.std.proofs.Common.{◌∙◌, sym, arith}
use Rattle.ds_debug.proofs.Settings.{named_small}
use Rattle.ds_debug.proofs.session.Session.let_go.Goals as goal

pub invariant_of-self : goal.invariant_of-self
invariant_of-self c = record {
  limit = c.self.invariant.limit;
  process = c.self.invariant.process;
  going = named_small c.self.inside.station.held c.args.who 0 (omega arith) (omega (arith, c.processes-few.ensures.held, c.processes-few.ensures.few)) (sym c.are_there.ensures ∙ c.if-are_there.true);
  whole = c.self.invariant.whole;
  spent = c.self.invariant.spent;
  working = c.self.invariant.working;
  reached = c.self.invariant.reached;
}
