use Rattle.std.proofs.Common.{◌∙◌, sym, ap, subst, refl, Err}
use Rattle.ds_procs.specs.declared.call.Call.TheVariants as call
use Rattle.ds_grants.specs.Inner.Represented.{Keeps}
use Rattle.ds_pagemap.specs.Machine.{State}
use Rattle.ds_pagemap.specs.Calls.{or_denied, served}
use Rattle.ds_refinement.specs.Held.{Kept}
use Rattle.ds_refinement.specs.Inner.Held.{whole}
use Rattle.ds_refinement.specs.Inner.Services.{Serves}
use Rattle.ds_monitor.specs.declared.monitor.Monitor.{Monitor}
use Rattle.ds_monitor.specs.Inner.Kept.{kept_of}
use Rattle.ds_monitor.proofs.Serving.{serves_as}
use Rattle.ds_monitor.proofs.Granting.{gives, answered_serves, serves_before}
use Rattle.ds_monitor.proofs.Forgetting.{given_pairs}
use Rattle.ds_monitor.proofs.monitor.Monitor.give.Goals as goal

pub returns-in-Ok-clause-serves : goal.returns-in-Ok-clause-serves
returns-in-Ok-clause-serves g c =
    let a = c.args in
    let k = kept_of a.self.now in
    let x = a.memory.now in
    let y = c.give-done.new.memory in
    let f = λ (m : State). served m a.process a.pc (call.Give a.address a.receiver a.to a.mode) in
    subst (λ (n : Kept). Serves f k x n y) (sym c.answer.ensures.kept)
    (answered_serves f k x y c.give-done.new.self c.give-done.new.tables c.give-done.new.spaces a.process 0 (record { memory = refl; log = refl })
    (λ log. ap (or_denied (whole k x log) a.process a.pc a.address) (gives k x log a.process a.address a.receiver a.to a.mode c.requires.marks ∙ c.in-Ok.ensures.does)))

pub returns-in-Ok-clause-keeps : goal.returns-in-Ok-clause-keeps
returns-in-Ok-clause-keeps g c =
    subst (λ (m : Monitor). Keeps (g.L.Lookaside.entries c.args.tlb.now) c.args.memory.now c.args.self.now.tables c.args.self.now.spaces c.args.self.now.grants (g.L.Lookaside.entries c.give-done.new.tlb) c.give-done.new.memory m.tables m.spaces m.grants)
    (sym c.answer.ensures.rest) c.give-done.ensures.keeps

pub returns-in-Err-clause-serves : goal.returns-in-Err-clause-serves
returns-in-Err-clause-serves g c =
    let a = c.args in
    let k = kept_of a.self.now in
    let x = a.memory.now in
    let y = c.give-done.new.memory in
    let n = kept_of c.refuse_give.new.self in
    let refused = c.in-Err.ensures.does in
    let denies = λ (m : State). or_denied m a.process a.pc a.address (Err c.number.result) in
    serves_as denies (λ (m : State). served m a.process a.pc (call.Give a.address a.receiver a.to a.mode)) k n x y
    (λ log. ap (or_denied (whole k x log) a.process a.pc a.address) (gives k x log a.process a.address a.receiver a.to a.mode c.requires.marks ∙ (refused.0 ∙ ap Err (sym c.number.ensures))))
    (serves_before denies k n x y y c.give-done.new.self c.give-done.new.tables c.give-done.new.spaces refused.1 (c.refuse_give.ensures.serves y))

pub returns-in-Ok-clause-pairs : goal.returns-in-Ok-clause-pairs
returns-in-Ok-clause-pairs g c =
    given_pairs _ _ _ c.give-done.result (g.L.Lookaside.entries c.args.tlb.now) (g.L.Lookaside.entries c.give-done.new.tlb) c.args.mode c.args.to _ c.give-done.ensures.entries c.give-done.ensures.refused

pub returns-in-Err-clause-pairs : goal.returns-in-Err-clause-pairs
returns-in-Err-clause-pairs g c =
    given_pairs _ _ _ c.give-done.result (g.L.Lookaside.entries c.args.tlb.now) (g.L.Lookaside.entries c.give-done.new.tlb) c.args.mode c.args.to _ c.give-done.ensures.entries c.give-done.ensures.refused
