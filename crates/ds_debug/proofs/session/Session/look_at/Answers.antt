use Rattle.std.proofs.Common.{◌∙◌, sym, arith}
use Rattle.ds_debug.proofs.Settings.{named_small}
use Rattle.ds_debug.proofs.session.Session.look_at.Goals as goal

pub invariant_of-self : goal.invariant_of-self
invariant_of-self c =
    let small = named_small c.self.inside.station.held c.args.who c.self.inside.process c.self.invariant.process (omega (arith, c.processes-few.ensures.held, c.processes-few.ensures.few)) (sym c.are_there.ensures ∙ c.if-are_there.true) in
    record {
      limit = c.self.invariant.limit;
      process = omega (arith, small, c.named_or-self-inside.ensures);
      going = c.self.invariant.going;
      whole = c.self.invariant.whole;
      spent = c.self.invariant.spent;
      working = c.self.invariant.working;
      reached = c.self.invariant.reached;
    }
