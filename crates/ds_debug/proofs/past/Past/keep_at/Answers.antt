use Rattle.std.proofs.Common.{arith}
use Rattle.ds_debug.proofs.Returning.{reached_at}
use Rattle.ds_debug.proofs.past.Past.keep_at.Goals as goal

pub at-requires : goal.at-requires
at-requires c = omega (arith, c.requires, c.limit-limit.ensures.value, c.limit-limit.ensures.small)

pub push-requires : goal.push-requires
push-requires c = record {
  reached = reached_at c.args.self.now.inputs c.args.self.now.limit c.args.time c.in-Ok.station.held c.requires c.in-Ok.ensures.at;
  whole = c.in-Ok.ensures.whole;
  spent = c.in-Ok.ensures.spent;
  working = c.in-Ok.ensures.working;
}
