use Rattle.std.proofs.Common.{◌≡◌, ◌+◌, ◌-◌, ℕ, ◌∙◌, ap, sym, subst, arith}
use Rattle.ds_dev.specs.Bus.{BusState}
use Rattle.ds_ahead.specs.Inner.Ride.{ridden, after_answer}
use Rattle.ds_procs.specs.declared.call.Call.TheVariants.{Get}
use Rattle.ds_pagemap.specs.Machine.{process_of}
use Rattle.ds_pagemap.specs.Calls.{queue_of}
use Rattle.ds_refinement.specs.Held.{Kept}
use Rattle.ds_monitor.specs.declared.monitor.Monitor.{Monitor}
use Rattle.ds_monitor.specs.Inner.Taking.{got, with_taken}
use Rattle.ds_monitor.specs.Inner.Kept.{kept_of}
use Rattle.ds_monitor.specs.Inner.Room.{HasLogRoom}
use Rattle.ds_kernel.specs.declared.parts.Parts.{Parts}
use Rattle.ds_refinement.specs.Inner.Services.{with_none_spent}
use Rattle.ds_kernel.specs.Inner.Parts.{own_of}
use Rattle.ds_kernel.specs.Inner.InBlock.{riding, at_call}
use Rattle.ds_kernel.proofs.AtOnce.{Answers, is_answered, get_answers, asks_get}
use Rattle.ds_kernel.proofs.Keeping.{first_ready}
use Rattle.ds_kernel.proofs.OnRides.{after_is, none_counted}
use Rattle.ds_kernel.proofs.parts.Parts.get_in_ride.Goals as goal

pub take_character-answer-requires-clause-within : goal.take_character-answer-requires-clause-within
take_character-answer-requires-clause-within g c = (first_ready (kept_of c.args.self.now.monitor) c.args.process c.requires.first c.requires.lawful).1

pub returns-clause-answered : goal.returns-clause-answered
returns-clause-answered g c =
    let here = c.args.self.now in
    let went = c.go_on_in_ride in
    let mark = c.args.mark.now in
    let left = c.args.ride.now.left in
    let core = ridden c.args.ride.now here.core in
    let old = at_call mark left c.args.before.now core here in
    let new = riding went.new.ride went.new.self in
    let p = c.args.process in
    let answer = c.take_character-answer.result in
    let k = kept_of old.monitor in
    let q = process_of k.state p in
    let less : ℕ = mark - went.new.ride.left in
    let one = went.ensures.left in
    let most = c.requires.mark in
    let some = c.requires.some in
    let later : here.monitor.time + less ≡ old.monitor.time + 1 = omega (arith, one, most, some) in
    let monitor = ap (λ (x : Parts g.row.L.Denot). x.monitor) went.ensures.rest ∙ ap (λ (x : Parts g.row.L.Denot). record x.monitor { time = x.monitor.time + less }) c.take_character-answer.ensures.rest in
    let bus = ap (λ (x : Parts g.row.L.Denot). x.bus) went.ensures.rest ∙ ap (λ (x : Parts g.row.L.Denot). x.bus) c.take_character-answer.ensures.rest in
    is_answered p answer here.core.system.cause here.core.system.epc Get (with_taken p k.state).queues k.state.consoles old new c.requires.waits (asks_get here.core.registers.general c.requires.number)
    (subst (λ (v : ℕ). Answers k.state p old.core.system.epc Get v (with_taken p k.state).queues k.state.consoles old.bus new.bus) (sym c.take_character-answer.ensures.value)
    (subst (λ (b : BusState). Answers k.state p old.core.system.epc Get (got (queue_of k.state p)) (with_taken p k.state).queues k.state.consoles old.bus b) (sym bus)
    (get_answers k.state p old.core.system.epc old.bus
    ((first_ready (kept_of here.monitor) p c.requires.first c.requires.lawful).0, (first_ready (kept_of here.monitor) p c.requires.first c.requires.lawful).1))))
    c.show_events_in_order.ensures.commands
    c.show_events_in_order.ensures.order
    (went.ensures.core ∙ (ap (λ (x : Parts g.row.L.Denot). after_answer (ridden c.args.ride.now x.core) answer) c.take_character-answer.ensures.rest ∙ after_is core here.bus answer q c.requires.may.outside c.requires.mode))
    (ap (λ (x : Parts g.row.L.Denot). kept_of x.monitor) went.ensures.rest
    ∙ (ap (λ (z : Kept). record z { state = record z.state { time = z.state.time + less } }) c.take_character-answer.ensures.kept
    ∙ ap (λ (t : ℕ). record k { state = record k.state { queues = (with_taken p k.state).queues; time = t } }) later))
    (ap (λ (m : Monitor). m.quiet_until) monitor)
    (λ room. subst (HasLogRoom 1) (sym monitor) room)
    (went.ensures.own ∙ (ap (λ (x : Parts g.row.L.Denot). with_none_spent (own_of x)) c.take_character-answer.ensures.rest ∙ none_counted mark left c.args.before.now core here))
