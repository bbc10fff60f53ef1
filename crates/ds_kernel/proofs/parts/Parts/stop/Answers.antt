use Rattle.std.proofs.Common.{ℕ, List, ap, subst, ◌∙◌}
use Rattle.ds_grants.specs.Represented.{IsRepresented}
use Rattle.ds_kernel.specs.declared.parts.Parts.{Parts}
use Rattle.ds_kernel.proofs.Keeping.{left_alive}
use Rattle.ds_kernel.proofs.Finishing.{has_ended, rest_alike, comes_in, stop_served}
use Rattle.ds_refinement.specs.Units.{ends_in_stop}
use Rattle.ds_refinement.specs.Told.{own_in}
use Rattle.ds_pagemap.specs.Unit.{Stop}
use Rattle.ds_monitor.specs.Inner.Kept.{kept_of}
use Rattle.ds_kernel.proofs.parts.Parts.stop.Goals as goal

pub end_unit-requires : goal.end_unit-requires
end_unit-requires g c = record {
  slots = c.requires.slots;
  wired = c.requires.wired;
  lawful = (c.stop_unit.ensures.orderly (c.leave.ensures.orderly c.show_busy_unit.ensures.orderly)
      (left_alive c.args.self.now.core (kept_of c.args.self.now.monitor) (kept_of c.leave.new.self.monitor) c.args.process c.leave.ensures.kept c.show_busy_unit.ensures.first c.show_busy_unit.ensures.above c.show_busy_unit.ensures.within c.show_busy_unit.ensures.alive)).lawful;
  answered = λ q is. absurd cc;
}

pub returns-clause-ends : goal.returns-clause-ends
returns-clause-ends g c =
    let old = c.args.self.now in
    let left = c.leave.new.self in
    let new = c.end_unit.new.self in
    let between = c.stop_unit.new.self in
    let stop : Stop = record { kind = c.args.kind; address = c.args.address; rule = c.args.rule; code = c.args.code } in
    let f = ends_in_stop c.args.process old.core.system.epc (own_in old.core.system) stop in
    let rest = c.end_unit.ensures.rest in
    has_ended f old new between left.core.entries old.bus.memory c.args.process c.requires.busy.good.sound c.show_busy_unit.ensures.unowed
    (stop_served old left new between c.args.process c.unit_address-unit.result c.own_address-pc.result stop c.unit_address-unit.ensures c.own_address-pc.ensures
    c.show_busy_unit.ensures.above c.leave.ensures.kept c.leave.ensures.rest (c.stop_unit.ensures.orderly (c.leave.ensures.orderly c.show_busy_unit.ensures.orderly)
    (left_alive c.args.self.now.core (kept_of c.args.self.now.monitor) (kept_of c.leave.new.self.monitor) c.args.process c.leave.ensures.kept c.show_busy_unit.ensures.first c.show_busy_unit.ensures.above c.show_busy_unit.ensures.within c.show_busy_unit.ensures.alive)) c.stop_unit.ensures.room c.stop_unit.ensures.serves c.stop_unit.ensures.lines c.stop_unit.ensures.rest)
    (comes_in f old left new between left.core.entries old.bus.memory c.args.process c.leave.ensures.rest c.end_unit.ensures.enters
    (subst (λ (m : List ℕ). IsRepresented left.core.entries m between.tables between.spaces between.grants → IsRepresented new.core.entries new.bus.memory new.monitor.tables new.monitor.spaces new.monitor.grants)
    (ap (λ (x : Parts g.row.L.Denot). x.bus.memory) c.leave.ensures.rest) c.end_unit.ensures.represented) c.end_unit.ensures.pages c.end_unit.ensures.random
    (ap (λ (x : Parts g.row.L.Denot). x.bus.memory) rest ∙ ap (λ (x : Parts g.row.L.Denot). x.bus.memory) c.leave.ensures.rest) (rest_alike left.bus new.bus (ap (λ (x : Parts g.row.L.Denot). x.bus) rest)) (ap (λ (x : Parts g.row.L.Denot). x.monitor) rest) c.end_unit.ensures.own c.end_unit.ensures.whole
    c.end_unit.ensures.context c.end_unit.ensures.pairs)
