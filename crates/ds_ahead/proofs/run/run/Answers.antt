use Rattle.std.proofs.Common.{subst}
use Rattle.ds_ahead.specs.declared.here.Way.{Way}
use Rattle.ds_ahead.specs.Inner.Run.{Ran, left_here, position_here}
use Rattle.ds_ahead.proofs.Turns.{ran_both, ran_out}
use Rattle.ds_ahead.proofs.run.run.Goals as goal

pub loop-here-preserved : goal.loop-here-preserved
loop-here-preserved g c =
    let p = c.args.page.now.places in
    let ran = c.loop-here.invariant.ran in
    let on = c.is_on.ensures.on c.if-not-is_on.false in
    record {
      ran = subst (λ (w : Way). Ran w c.args.left.now c.args.core.now c.args.at.now c.args.bus.now p c.args.first c.turn-way.new.here c.turn-way.new.rest c.turn-way.new.core c.turn-way.new.at c.turn-way.new.bus) on
          (ran_both c.turn-way.result c.args.left.now (left_here p c.loop-here.here c.loop-here.rest) c.args.core.now c.args.at.now c.args.bus.now c.loop-here.core (position_here c.args.first c.loop-here.here) c.loop-here.bus
          p c.args.first c.turn-way.new.here c.turn-way.new.rest c.turn-way.new.core c.turn-way.new.at c.turn-way.new.bus ran.0 ran.1 c.turn-way.ensures.ran);
      stands = c.turn-way.ensures.stands;
      free = c.turn-way.ensures.free on;
      holds = c.turn-way.ensures.holds;
    }

pub returns-then-not-is_on-clause-calls : goal.returns-then-not-is_on-clause-calls
returns-then-not-is_on-clause-calls g c =
    let p = c.args.page.now.places in
    let ran = c.loop-here.invariant.ran in
    let both = ran_both c.turn-way.result c.args.left.now (left_here p c.loop-here.here c.loop-here.rest) c.args.core.now c.args.at.now c.args.bus.now c.loop-here.core (position_here c.args.first c.loop-here.here) c.loop-here.bus
    p c.args.first c.turn-way.new.here c.turn-way.new.rest c.turn-way.new.core c.turn-way.new.at c.turn-way.new.bus ran.0 ran.1 c.turn-way.ensures.ran in
    λ is. ((ran_out c.turn-way.result c.args.left.now c.args.core.now c.args.at.now c.args.bus.now p c.args.first c.turn-way.new.here c.turn-way.new.rest c.turn-way.new.core c.turn-way.new.at c.turn-way.new.bus
    c.come_out.new.at c.come_out.new.left c.come_out.result (c.is_on.ensures.off c.if-not-is_on.true) both c.come_out.ensures).2 is).1

pub returns-then-not-is_on-clause-some : goal.returns-then-not-is_on-clause-some
returns-then-not-is_on-clause-some g c =
    let p = c.args.page.now.places in
    let ran = c.loop-here.invariant.ran in
    let both = ran_both c.turn-way.result c.args.left.now (left_here p c.loop-here.here c.loop-here.rest) c.args.core.now c.args.at.now c.args.bus.now c.loop-here.core (position_here c.args.first c.loop-here.here) c.loop-here.bus
    p c.args.first c.turn-way.new.here c.turn-way.new.rest c.turn-way.new.core c.turn-way.new.at c.turn-way.new.bus ran.0 ran.1 c.turn-way.ensures.ran in
    λ is. ((ran_out c.turn-way.result c.args.left.now c.args.core.now c.args.at.now c.args.bus.now p c.args.first c.turn-way.new.here c.turn-way.new.rest c.turn-way.new.core c.turn-way.new.at c.turn-way.new.bus
    c.come_out.new.at c.come_out.new.left c.come_out.result (c.is_on.ensures.off c.if-not-is_on.true) both c.come_out.ensures).2 is).0

pub returns-then-not-is_on-clause-plain : goal.returns-then-not-is_on-clause-plain
returns-then-not-is_on-clause-plain g c =
    let p = c.args.page.now.places in
    let ran = c.loop-here.invariant.ran in
    let both = ran_both c.turn-way.result c.args.left.now (left_here p c.loop-here.here c.loop-here.rest) c.args.core.now c.args.at.now c.args.bus.now c.loop-here.core (position_here c.args.first c.loop-here.here) c.loop-here.bus
    p c.args.first c.turn-way.new.here c.turn-way.new.rest c.turn-way.new.core c.turn-way.new.at c.turn-way.new.bus ran.0 ran.1 c.turn-way.ensures.ran in
    λ is. (ran_out c.turn-way.result c.args.left.now c.args.core.now c.args.at.now c.args.bus.now p c.args.first c.turn-way.new.here c.turn-way.new.rest c.turn-way.new.core c.turn-way.new.at c.turn-way.new.bus
    c.come_out.new.at c.come_out.new.left c.come_out.result (c.is_on.ensures.off c.if-not-is_on.true) both c.come_out.ensures).3 is

pub returns-then-not-is_on-clause-within : goal.returns-then-not-is_on-clause-within
returns-then-not-is_on-clause-within g c =
    let p = c.args.page.now.places in
    let ran = c.loop-here.invariant.ran in
    let both = ran_both c.turn-way.result c.args.left.now (left_here p c.loop-here.here c.loop-here.rest) c.args.core.now c.args.at.now c.args.bus.now c.loop-here.core (position_here c.args.first c.loop-here.here) c.loop-here.bus
    p c.args.first c.turn-way.new.here c.turn-way.new.rest c.turn-way.new.core c.turn-way.new.at c.turn-way.new.bus ran.0 ran.1 c.turn-way.ensures.ran in
    (ran_out c.turn-way.result c.args.left.now c.args.core.now c.args.at.now c.args.bus.now p c.args.first c.turn-way.new.here c.turn-way.new.rest c.turn-way.new.core c.turn-way.new.at c.turn-way.new.bus
    c.come_out.new.at c.come_out.new.left c.come_out.result (c.is_on.ensures.off c.if-not-is_on.true) both c.come_out.ensures).0

pub returns-then-not-is_on-clause-leads : goal.returns-then-not-is_on-clause-leads
returns-then-not-is_on-clause-leads g c =
    let p = c.args.page.now.places in
    let ran = c.loop-here.invariant.ran in
    let both = ran_both c.turn-way.result c.args.left.now (left_here p c.loop-here.here c.loop-here.rest) c.args.core.now c.args.at.now c.args.bus.now c.loop-here.core (position_here c.args.first c.loop-here.here) c.loop-here.bus
    p c.args.first c.turn-way.new.here c.turn-way.new.rest c.turn-way.new.core c.turn-way.new.at c.turn-way.new.bus ran.0 ran.1 c.turn-way.ensures.ran in
    (ran_out c.turn-way.result c.args.left.now c.args.core.now c.args.at.now c.args.bus.now p c.args.first c.turn-way.new.here c.turn-way.new.rest c.turn-way.new.core c.turn-way.new.at c.turn-way.new.bus
    c.come_out.new.at c.come_out.new.left c.come_out.result (c.is_on.ensures.off c.if-not-is_on.true) both c.come_out.ensures).1
