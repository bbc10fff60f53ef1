use Rattle.std.proofs.Common.{◌≡◌, ◌+◌, ◌∙◌, sym, subst, arith}
use Rattle.ds_pages.specs.Inner.Places.{does_at, fields_at}
use Rattle.ds_ahead.specs.declared.operations.Outcome.{Outcome}
use Rattle.ds_ahead.specs.Inner.Goes.{GoesBy}
use Rattle.ds_ahead.specs.Inner.Placed.{Place}
use Rattle.ds_ahead.specs.Inner.Run.{place_in, MovesAt, left_here, position_here}
use Rattle.ds_ahead.proofs.Turns.{ran_both, turn_branched}
use Rattle.ds_ahead.proofs.turn.with_slot.Goals as goal

pub returns-in-Branched-clause-ran : goal.returns-in-Branched-clause-ran
returns-in-Branched-clause-ran g c =
    let p = c.args.page.now.places in
    let h = c.args.here.now in
    let at : Place = record { pc = c.place.result.pc; next = c.place.result.next; slot = c.place.result.slot; late = c.place.result.late } in
    let is : at ≡ place_in c.args.first h.place = c.place.ensures in
    let moves = subst (λ (o : Outcome). MovesAt p h.place o c.args.core.now at c.args.bus.now c.do_at.new.core c.do_at.new.at c.do_at.new.bus) c.in-Branched.is c.do_at.ensures.moves in
    let goes = subst (λ (o : Outcome). GoesBy (does_at p h.place) o c.args.core.now (fields_at p h.place).to at c.do_at.new.at) c.in-Branched.is c.do_at.ensures.goes in
    let turn = turn_branched p c.args.first c.args.rest.now h c.args.core.now (fields_at p h.place).to at c.args.bus.now c.do_at.new.core c.do_at.new.at c.do_at.new.bus
    is c.requires.goes.free c.requires.low (sym c.length-length.ensures.value ∙ c.length-length.ensures.steps) (omega (arith, c.length-length.ensures.value, c.length-length.ensures.within))
    moves goes c.do_at.ensures.calm in
    ran_both c.through_slot.result (left_here p h c.args.rest.now) (c.args.rest.now + 1) c.args.core.now (position_here c.args.first h) c.args.bus.now c.do_at.new.core c.do_at.new.at c.do_at.new.bus
    p c.args.first c.through_slot.new.here c.through_slot.new.rest c.through_slot.new.core c.through_slot.new.at c.through_slot.new.bus
    (omega (arith, turn.1)) turn.3 c.through_slot.ensures.ran
