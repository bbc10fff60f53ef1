use Rattle.std.proofs.Common.{◌≡◌, ◌+◌, ◌^◌, ◌<◌, ◌≤◌, [], length, ap, sym, subst, ◌∙◌, arith}
use Rattle.ds_pagemap_laws.specs.Lawful.{IsLawful}
use Rattle.ds_refinement.specs.Inner.Held.{whole}
use Rattle.ds_refinement.proofs.Boundaries.{some_turn}
use Rattle.ds_monitor.specs.declared.monitor.Monitor.{Monitor}
use Rattle.ds_monitor.specs.Inner.Kept.{kept_of}
use Rattle.ds_monitor.specs.Inner.Room.{HasBoundaryRoom}
use Rattle.ds_kernel.specs.declared.parts.Parts.{Parts}
use Rattle.ds_kernel.proofs.Attending.{is_scanned, is_empty, tells}
use Rattle.ds_kernel.proofs.Hearing.{arrived_tells}
use Rattle.ds_kernel.proofs.Served.{none_received, arrived_orderly, has_attended}
use Rattle.ds_kernel.proofs.parts.Parts.attend.Goals as goal

pub arrive-requires : goal.arrive-requires
arrive-requires g c =
    let old = c.args.self.now in
    let sound = c.requires.good.sound in
    record {
      before = c.requires.good.orderly.ticked;
      early = c.requires.early;
      on = is_scanned old.bus (kept_of old.monitor) sound.stands.agrees.devices;
      lines = none_received old.bus.serial.silo (is_empty old.bus (kept_of old.monitor) sound.stands.agrees.devices);
    }

pub serve_turn-requires : goal.serve_turn-requires
serve_turn-requires g c =
    let old = c.args.self.now in
    let came = c.arrive.new.self in
    let state = c.arrive.ensures.state in
    let few : old.monitor.lines + length old.monitor.due.commands ≤ old.monitor.time + 4096 = c.requires.good.orderly.lines in
    let early : old.monitor.time < 2 ^ 62 = c.requires.early in
    let time : came.monitor.time ≡ old.monitor.time = ap (λ (p : Parts g.row.L.Denot). p.monitor.time) state in
    let same : came.monitor.lines + length came.monitor.due.commands ≡ old.monitor.lines + length old.monitor.due.commands = ap (λ (p : Parts g.row.L.Denot). p.monitor.lines + length p.monitor.due.commands) state in
    record {
      lines = c.arrive.ensures.lines;
      tells = arrived_tells old.bus came.bus (kept_of old.monitor) (ap (λ (p : Parts g.row.L.Denot). p.bus) state) (tells old.bus (kept_of old.monitor) c.requires.good.sound.stands.agrees.devices);
      orderly = arrived_orderly (kept_of old.monitor) (kept_of came.monitor) (ap (λ (p : Parts g.row.L.Denot). kept_of p.monitor) state) c.requires.good.orderly.kept;
      early = omega (arith, early, time);
      count = omega (arith, few, early, same);
      room = subst (λ (p : Parts g.row.L.Denot). HasBoundaryRoom p.monitor) (sym state) (c.requires.good.owed c.requires.owed);
    }

pub look_ahead-requires : goal.look_ahead-requires
look_ahead-requires g c =
    let high = c.requires.high in
    let early = c.requires.early in
    let rate = ap (λ (p : Parts g.row.L.Denot). p.monitor.rate) c.serve_turn.ensures.rest ∙ ap (λ (p : Parts g.row.L.Denot). p.monitor.rate) c.arrive.ensures.state in
    let ticked = ap (λ (p : Parts g.row.L.Denot). p.monitor.ticked) c.serve_turn.ensures.rest ∙ ap (λ (p : Parts g.row.L.Denot). p.monitor.ticked) c.arrive.ensures.state in
    record { rate = omega (arith, high, rate); early = omega (arith, early, ticked) }

pub end_unit-requires : goal.end_unit-requires
end_unit-requires g c = record {
  slots = c.requires.slots;
  wired = c.requires.wired;
  lawful = subst (λ (m : Monitor). IsLawful (whole (kept_of m) [] [])) (sym c.look_ahead.ensures) c.serve_turn.ensures.orderly.lawful;
  answered = λ q is. absurd cc;
}

pub returns : goal.returns
returns g c =
    let old = c.args.self.now in
    let turn = some_turn old.monitor.owed c.requires.owed in
    has_attended old c.arrive.new.self c.serve_turn.new.self c.end_unit.new.self c.look_ahead.new.self turn.0 c.requires.good.sound turn.1 c.requires.good.orderly.ticked
    c.requires.high c.requires.low c.show_events_in_order.ensures.lines c.arrive.ensures.state c.serve_turn.ensures.serves c.serve_turn.ensures.orderly c.serve_turn.ensures.count c.serve_turn.ensures.bus c.serve_turn.ensures.low c.serve_turn.ensures.keeps c.serve_turn.ensures.pairs c.serve_turn.ensures.random c.serve_turn.ensures.rest
    c.look_ahead.ensures c.end_unit.ensures.enters c.end_unit.ensures.represented c.end_unit.ensures.pairs c.end_unit.ensures.context c.end_unit.ensures.pages c.end_unit.ensures.random c.end_unit.ensures.own c.end_unit.ensures.whole c.end_unit.ensures.rest
