use Rattle.std.proofs.Common.{◌+◌, ◌∙◌, ap, sym, subst}
use Rattle.ds_dev.specs.Bus.{BusState}
use Rattle.ds_procs.specs.declared.call.Call.TheVariants.{Put}
use Rattle.ds_pagemap.specs.Machine.{process_of}
use Rattle.ds_pagemap.specs.Calls.{after_put}
use Rattle.ds_refinement.specs.Held.{Kept}
use Rattle.ds_monitor.specs.declared.monitor.Monitor.{Monitor}
use Rattle.ds_monitor.specs.Inner.Kept.{kept_of}
use Rattle.ds_monitor.specs.Inner.Room.{HasLogRoom}
use Rattle.ds_kernel.specs.declared.parts.Parts.{Parts}
use Rattle.ds_kernel.proofs.AtOnce.{Answers, is_answered, put_answers, asks_put}
use Rattle.ds_kernel.proofs.parts.Parts.put_at_once.Goals as goal

pub returns : goal.returns
returns g c =
    let old = c.args.self.now in
    let new = c.go_on_after_call.new.self in
    let p = c.args.process in
    let byte = c.first_argument-byte.result in
    let k = kept_of old.monitor in
    let q = process_of k.state p in
    let go = c.go_on_after_call.ensures.rest q in
    let monitor = ap (λ (x : Parts g.row.L.Denot). x.monitor) go ∙ ap (λ (m : Monitor). record m { time = m.time + 1 }) c.put.ensures.rest in
    let bus = ap (λ (x : Parts g.row.L.Denot). x.bus) go ∙ c.put.ensures.bus in
    is_answered p 0 old.core.system.cause old.core.system.epc (Put byte) k.state.queues (after_put k.state p byte).consoles old new c.requires.waits (asks_put old.core.registers.general c.requires.number ∙ ap Put (sym c.first_argument-byte.ensures))
    (subst (λ (b : BusState). Answers k.state p old.core.system.epc (Put byte) 0 k.state.queues (after_put k.state p byte).consoles old.bus b) (sym bus)
    (put_answers k.state p old.core.system.epc byte old.bus (c.show_busy_unit.ensures.above, c.show_busy_unit.ensures.within)))
    c.show_events_in_order.ensures.commands
    c.show_events_in_order.ensures.order
    (ap (λ (x : Parts g.row.L.Denot). x.core) go)
    (ap (λ (x : Parts g.row.L.Denot). kept_of x.monitor) go ∙ ap (λ (z : Kept). record z { state = record z.state { time = z.state.time + 1 } }) c.put.ensures.kept)
    (ap (λ (m : Monitor). m.quiet_until) monitor)
    (λ room. subst (HasLogRoom 1) (sym monitor) room)
    c.go_on_after_call.ensures.own
