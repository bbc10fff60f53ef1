use Rattle.std.proofs.Common.{◌≡◌, ◌+◌, ◌<◌, ◌≤◌, ◌∙◌, ap, arith}
use Rattle.ds_ahead.specs.Inner.Ahead.{owed_tick}
use Rattle.ds_kernel.specs.Inner.Parts.{held}
use Rattle.ds_kernel.specs.Inner.Going.{GoesOn}
use Rattle.ds_kernel.proofs.Running.{goes_join}
use Rattle.ds_kernel.proofs.parts.Parts.run_blocks.Goals as goal

pub loop-ahead-preserved : goal.loop-ahead-preserved
loop-ahead-preserved g c =
    let old = c.loop-ahead.self in
    let new = c.run_and_serve.new.self in
    let gone : GoesOn c.args.n (held old) (held new) = c.run_and_serve.ensures.goes in
    let early : new.monitor.time + 1 < c.args.self.now.monitor.time + c.from.result + 1 = (c.run_and_serve.ensures.on c.loop-ahead-test.true).early in
    let quiet : c.args.self.now.monitor.time + c.from.result + 1 ≤ new.monitor.quiet_until = c.run_and_serve.ensures.quiet c.loop-ahead-test.true in
    let outside : owed_tick new.core.slot ≡ 0 = ap owed_tick (c.run_and_serve.ensures.on c.loop-ahead-test.true).outside in record {
      good = c.run_and_serve.ensures.good;
      working = gone.working ∙ c.loop-ahead.invariant.working;
      goes = λ h goes. c.loop-ahead.invariant.goes h (goes_join c.args.n (held old) (held new) h gone goes);
      ahead = (c.run_and_serve.ensures.on c.loop-ahead-test.true).ahead;
      some = omega (arith, early);
      end = omega (arith, early);
      quiet = quiet;
      before = omega (arith, early, quiet, outside);
      room = (c.run_and_serve.ensures.on c.loop-ahead-test.true).room;
    }

pub returns-clause-goes : goal.returns-clause-goes
returns-clause-goes g c = c.loop-ahead.invariant.goes (held c.run_and_serve.new.self) c.run_and_serve.ensures.goes
