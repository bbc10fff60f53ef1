use Rattle.std.proofs.Common.{◌+◌, subst, refl, ap, arith}
use Rattle.ds_pages.specs.Inner.Places.{does_at, fields_at}
use Rattle.ds_ahead.specs.declared.operations.Outcome.{Outcome}
use Rattle.ds_ahead.specs.Inner.Placed.{Place}
use Rattle.ds_ahead.specs.Inner.Operations.{HasOutcome}
use Rattle.ds_ahead.proofs.Turns.{slot_landed, slot_not_done, slot_left}
use Rattle.ds_core.specs.declared.event.Event.TheVariants as event
use Rattle.ds_ahead.proofs.run.through_slot.Goals as goal

pub returns-in-Done-clause-ran : goal.returns-in-Done-clause-ran
returns-in-Done-clause-ran g c =
    let done = subst (λ (o : Outcome). HasOutcome o c.args.core.now c.args.at.now c.args.bus.now c.do_slot_operation.new.core c.do_slot_operation.new.at c.do_slot_operation.new.bus) c.in-Done.is c.do_slot_operation.ensures.outcome in
    slot_landed c.land.result event.Retired c.args.page.now.places c.args.first c.args.rest.now c.land.new.rest c.land.new.here c.args.core.now c.args.at.now c.args.bus.now c.do_slot_operation.new.core c.do_slot_operation.new.at c.do_slot_operation.new.bus
    done.1 refl (grind (arith)) c.do_slot_operation.ensures.calm c.land.ensures.lands

pub returns-in-Loaded-clause-ran : goal.returns-in-Loaded-clause-ran
returns-in-Loaded-clause-ran g c =
    let done = subst (λ (o : Outcome). HasOutcome o c.args.core.now c.args.at.now c.args.bus.now c.do_slot_operation.new.core c.do_slot_operation.new.at c.do_slot_operation.new.bus) c.in-Loaded.is c.do_slot_operation.ensures.outcome in
    slot_landed c.land_after_load.result event.Retired c.args.page.now.places c.args.first c.args.rest.now c.land_after_load.new.rest c.land_after_load.new.here c.args.core.now c.args.at.now c.args.bus.now c.do_slot_operation.new.core c.do_slot_operation.new.at c.do_slot_operation.new.bus
    done refl (grind (arith)) c.do_slot_operation.ensures.calm c.land_after_load.ensures.lands

pub returns-in_default : goal.returns-in_default
returns-in_default g c =
    let same = slot_not_done (does_at c.args.page.now.places (c.args.here.now.place + 1)) c.do_slot_operation.result c.args.core.now (fields_at c.args.page.now.places (c.args.here.now.place + 1)).to
    c.args.at.now c.args.bus.now c.do_slot_operation.new.core c.do_slot_operation.new.at c.do_slot_operation.new.bus (ap (λ (a : Place). a.slot) c.requires.slot) c.in_default.not-Done c.in_default.not-Loaded c.do_slot_operation.ensures.goes c.do_slot_operation.ensures.outcome in
    record {
      ran = slot_left c.args.page.now.places c.args.first c.args.rest.now c.args.here.now c.args.core.now c.args.at.now c.args.bus.now c.do_slot_operation.new.core c.do_slot_operation.new.at c.do_slot_operation.new.bus same.0 same.1 same.2;
      fewer = λ no. absurd cc;
      stands = c.requires.stands;
      free = λ no. absurd cc;
      holds = c.do_slot_operation.ensures.holds;
    }
