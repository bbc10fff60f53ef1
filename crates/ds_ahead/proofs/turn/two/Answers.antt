use Rattle.ds_ahead.specs.Inner.Run.{left_here, position_here}
use Rattle.ds_ahead.proofs.Turns.{ran_both, ran_on}
use Rattle.ds_ahead.proofs.turn.two.Goals as goal

pub returns-clause-ran : goal.returns-clause-ran
returns-clause-ran g c =
    let p = c.args.page.now.places in
    let all = left_here p c.args.here.now c.args.rest.now in
    let from = position_here c.args.first c.args.here.now in
    let ran = ran_on c.plain-way.result all c.args.core.now from c.args.bus.now p c.args.first c.plain-way.new.here c.plain-way.new.rest c.plain-way.new.core c.plain-way.new.at c.plain-way.new.bus
    (c.is_on.ensures.on c.if-not-is_on.false) c.plain-way.ensures.ran in
    ran_both c.plain.result all (left_here p c.plain-way.new.here c.plain-way.new.rest) c.args.core.now from c.args.bus.now c.plain-way.new.core (position_here c.args.first c.plain-way.new.here) c.plain-way.new.bus
    p c.args.first c.plain.new.here c.plain.new.rest c.plain.new.core c.plain.new.at c.plain.new.bus ran.0 ran.1 c.plain.ensures.ran
