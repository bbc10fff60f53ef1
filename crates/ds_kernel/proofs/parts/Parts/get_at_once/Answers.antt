use Rattle.std.proofs.Common.{ℕ, ◌+◌, ◌∙◌, ap, sym, subst}
use Rattle.ds_dev.specs.Bus.{BusState}
use Rattle.ds_procs.specs.declared.call.Call.TheVariants.{Get}
use Rattle.ds_pagemap.specs.Machine.{process_of}
use Rattle.ds_pagemap.specs.Calls.{queue_of}
use Rattle.ds_refinement.specs.Held.{Kept}
use Rattle.ds_monitor.specs.declared.monitor.Monitor.{Monitor}
use Rattle.ds_monitor.specs.Inner.Taking.{got, with_taken}
use Rattle.ds_monitor.specs.Inner.Kept.{kept_of}
use Rattle.ds_monitor.specs.Inner.Room.{HasLogRoom}
use Rattle.ds_kernel.specs.declared.parts.Parts.{Parts}
use Rattle.ds_kernel.proofs.AtOnce.{Answers, is_answered, get_answers, asks_get}
use Rattle.ds_kernel.proofs.parts.Parts.get_at_once.Goals as goal

pub returns : goal.returns
returns g c =
    let old = c.args.self.now in
    let new = c.go_on_after_call.new.self in
    let p = c.args.process in
    let k = kept_of old.monitor in
    let q = process_of k.state p in
    let go = c.go_on_after_call.ensures.rest q in
    let monitor = ap (λ (x : Parts g.row.L.Denot). x.monitor) go ∙ ap (λ (m : Monitor). record m { time = m.time + 1 }) c.take_answer-answer.ensures.rest in
    let bus = ap (λ (x : Parts g.row.L.Denot). x.bus) go in
    is_answered p c.take_answer-answer.result old.core.system.cause old.core.system.epc Get (with_taken p k.state).queues k.state.consoles old new c.requires.waits (asks_get old.core.registers.general c.requires.number)
    (subst (λ (v : ℕ). Answers k.state p old.core.system.epc Get v (with_taken p k.state).queues k.state.consoles old.bus new.bus) (sym c.take_answer-answer.ensures.value)
    (subst (λ (b : BusState). Answers k.state p old.core.system.epc Get (got (queue_of k.state p)) (with_taken p k.state).queues k.state.consoles old.bus b) (sym bus)
    (get_answers k.state p old.core.system.epc old.bus (c.show_busy_unit.ensures.above, c.show_busy_unit.ensures.within))))
    c.show_events_in_order.ensures.commands
    c.show_events_in_order.ensures.order
    (ap (λ (x : Parts g.row.L.Denot). x.core) go)
    (ap (λ (x : Parts g.row.L.Denot). kept_of x.monitor) go ∙ ap (λ (z : Kept). record z { state = record z.state { time = z.state.time + 1 } }) c.take_answer-answer.ensures.kept)
    (ap (λ (m : Monitor). m.quiet_until) monitor)
    (λ room. subst (HasLogRoom 1) (sym monitor) room)
    c.go_on_after_call.ensures.own
