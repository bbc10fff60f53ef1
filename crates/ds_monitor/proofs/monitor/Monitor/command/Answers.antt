use Rattle.std.proofs.Common.{◌∙◌, ◌+◌, ℕ, List, refl, sym, ap, subst}
use Rattle.ds_pagemap.specs.Machine.{State}
use Rattle.ds_pagemap.specs.Calls.{after_command}
use Rattle.ds_refinement.specs.Held.{Kept}
use Rattle.ds_refinement.specs.Inner.Services.{Serves}
use Rattle.ds_monitor.specs.declared.monitor.Monitor.{Monitor}
use Rattle.ds_monitor.specs.Inner.Kept.{kept_of}
use Rattle.ds_monitor.specs.Inner.Room.{HasLogRoom}
use Rattle.ds_monitor.specs.Inner.Commands.{with_refusal}
use Rattle.ds_monitor.proofs.Commanding.{refusal_serves}
use Rattle.ds_monitor.proofs.Lawful.{command_orderly}
use Rattle.ds_monitor.proofs.monitor.Monitor.command.Goals as goal

pub returns-in-Err-clause-serves : goal.returns-in-Err-clause-serves
returns-in-Err-clause-serves g c =
    let n = c.args.order.number in
    let k = kept_of c.args.self.now in
    let x = c.args.memory.now in
    let none = c.in-Err.ensures.obeys in
    let f = λ (m : State). after_command m n c.args.order.command in
    subst (λ (y : List ℕ). Serves f k x (kept_of c.refuse.new.self) y) (sym none.1)
    (subst (λ (b : Kept). Serves f k x b x) (sym (c.refuse.ensures.kept ∙ ap (with_refusal n c.in-Err.fault) none.0))
    (refusal_serves n c.args.order.command c.in-Err.fault k x (record { memory = refl; log = refl }) none.2))

pub returns-in-Err-clause-room : goal.returns-in-Err-clause-room
returns-in-Err-clause-room g c = λ n h. c.refuse.ensures.room n (subst (HasLogRoom (n + 1)) (sym c.obey.ensures.rest) h)

pub returns-in_default-clause-orderly : goal.returns-in_default-clause-orderly
returns-in_default-clause-orderly g c =
    command_orderly c.args.order.number c.args.order.command (kept_of c.args.self.now) (kept_of c.obey.new.self) c.args.memory.now c.obey.new.memory c.in_default.ensures.obeys
    c.obey.ensures.marks c.obey.ensures.same.named (ap (λ (m : Monitor). m.due.commands) c.obey.ensures.rest) (ap (λ (m : Monitor). m.ends) c.obey.ensures.rest) c.requires.orderly
