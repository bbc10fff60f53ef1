use Rattle.std.proofs.Common.{◌≡◌, ◌∙◌, true, sym, ap, subst, arith}
use Rattle.ds_pages.specs.Inner.Does.{is_load, has_slot}
use Rattle.ds_pages.specs.Inner.Places.{does_at, fields_at}
use Rattle.ds_ahead.specs.declared.here.Here.{Here}
use Rattle.ds_ahead.specs.declared.here.Way.TheVariants.{On}
use Rattle.ds_ahead.specs.declared.operations.Outcome.{Outcome}
use Rattle.ds_ahead.specs.Inner.Goes.{GoesBy}
use Rattle.ds_ahead.specs.Inner.Placed.{Place}
use Rattle.ds_ahead.specs.Inner.Run.{place_in, MovesAt, Ran, left_here, position_here}
use Rattle.ds_ahead.proofs.Turns.{turn_done, turn_loaded, turn_not_done}
use Rattle.ds_ahead.proofs.turn.plain.Goals as goal

pub returns-in-Done-clause-ran : goal.returns-in-Done-clause-ran
returns-in-Done-clause-ran g c =
    let p = c.args.page.now.places in
    let h = c.args.here.now in
    let at : Place = record { pc = c.place.result.pc; next = c.place.result.next; slot = c.place.result.slot; late = c.place.result.late } in
    let is : at ≡ place_in c.args.first h.place = c.place.ensures in
    let moves = subst (λ (o : Outcome). MovesAt p h.place o c.args.core.now at c.args.bus.now c.do_operation.new.core c.do_operation.new.at c.do_operation.new.bus) c.in-Done.is c.do_operation.ensures.moves in
    let goes = subst (λ (o : Outcome). GoesBy (does_at p h.place) o c.args.core.now (fields_at p h.place).to at c.do_operation.new.at) c.in-Done.is c.do_operation.ensures.goes in
    let turn = turn_done p c.args.first c.args.rest.now h c.args.core.now (fields_at p h.place).to at c.args.bus.now c.do_operation.new.core c.do_operation.new.at c.do_operation.new.bus
    is c.requires.goes.stands c.requires.goes.free c.requires.low (sym c.length-length.ensures.value ∙ c.length-length.ensures.steps) (omega (arith, c.length-length.ensures.value, c.length-length.ensures.within))
    moves goes c.do_operation.ensures.calm in
    subst (λ (x : Here). Ran On (left_here p h c.args.rest.now) c.args.core.now (position_here c.args.first h) c.args.bus.now p c.args.first x c.args.rest.now c.do_operation.new.core c.do_operation.new.at c.do_operation.new.bus) (sym c.go_to_next.ensures) turn.3

pub returns-in-Loaded-clause-ran : goal.returns-in-Loaded-clause-ran
returns-in-Loaded-clause-ran g c =
    let p = c.args.page.now.places in
    let h = c.args.here.now in
    let at : Place = record { pc = c.place.result.pc; next = c.place.result.next; slot = c.place.result.slot; late = c.place.result.late } in
    let is : at ≡ place_in c.args.first h.place = c.place.ensures in
    let moves = subst (λ (o : Outcome). MovesAt p h.place o c.args.core.now at c.args.bus.now c.do_operation.new.core c.do_operation.new.at c.do_operation.new.bus) c.in-Loaded.is c.do_operation.ensures.moves in
    let goes = subst (λ (o : Outcome). GoesBy (does_at p h.place) o c.args.core.now (fields_at p h.place).to at c.do_operation.new.at) c.in-Loaded.is c.do_operation.ensures.goes in
    (turn_loaded p c.args.first c.args.rest.now h c.go_after_load.new.self c.args.core.now at c.args.bus.now c.do_operation.new.core c.do_operation.new.at c.do_operation.new.bus
    is c.requires.goes.free c.requires.low (sym c.length-length.ensures.value ∙ c.length-length.ensures.steps) (omega (arith, c.length-length.ensures.value, c.length-length.ensures.within))
    moves goes c.do_operation.ensures.calm c.go_after_load.ensures.place c.go_after_load.ensures.at c.go_after_load.ensures.late
    (λ load. c.does-does.ensures.free (subst (λ d. is_load d ≡ true) (sym c.does-does.ensures.value) load))).3

pub returns-in_default-clause-ran : goal.returns-in_default-clause-ran
returns-in_default-clause-ran g c =
    let p = c.args.page.now.places in
    let h = c.args.here.now in
    let at : Place = record { pc = c.place.result.pc; next = c.place.result.next; slot = c.place.result.slot; late = c.place.result.late } in
    turn_not_done c.do_operation.result p c.args.first c.args.rest.now h c.args.core.now (fields_at p h.place).to at c.args.bus.now c.do_operation.new.core c.do_operation.new.at c.do_operation.new.bus
    c.requires.goes.fits (ap has_slot c.requires.kind.0 ∙ c.requires.straight) c.in_default.not-Done c.in_default.not-Loaded c.do_operation.ensures.moves c.do_operation.ensures.goes
