use Rattle.std.proofs.Common.{ℕ, List, sym, subst, refl}
use Rattle.ds_procs.specs.declared.call.Call.{Call}
use Rattle.ds_procs.specs.declared.call.Call.TheVariants as call
use Rattle.ds_pagemap.specs.Machine.{State}
use Rattle.ds_pagemap.specs.Calls.{served}
use Rattle.ds_refinement.specs.Inner.Services.{Serves}
use Rattle.ds_monitor.specs.Inner.Kept.{kept_of}
use Rattle.ds_monitor.proofs.Called.{by_kept, waits}
use Rattle.ds_monitor.proofs.monitor.Monitor.serve.Goals as goal

pub returns-in-Take-clause-serves : goal.returns-in-Take-clause-serves
returns-in-Take-clause-serves g c =
    let a = c.args in
    let k = kept_of a.self.now in
    let n = kept_of c.take_back.new.self in
    let memory = c.take_back.new.memory in
    subst (λ (x : Call). Serves (λ (m : State). served m a.process a.pc x) k a.bus.now.memory n memory) (sym c.in-Take.is)
    (subst (λ (x : List ℕ). Serves (λ (m : State). served m a.process a.pc (call.Take c.in-Take.holder c.in-Take.address)) k x n memory) c.memory-in-Take.ensures.value
    (c.take_back.ensures.serves a.pc))

pub returns-in-Drop-clause-serves : goal.returns-in-Drop-clause-serves
returns-in-Drop-clause-serves g c =
    let a = c.args in
    let k = kept_of a.self.now in
    let n = kept_of c.drop_own.new.self in
    let memory = c.drop_own.new.memory in
    subst (λ (x : Call). Serves (λ (m : State). served m a.process a.pc x) k a.bus.now.memory n memory) (sym c.in-Drop.is)
    (subst (λ (x : List ℕ). Serves (λ (m : State). served m a.process a.pc (call.Drop c.in-Drop.address)) k x n memory) c.memory-in-Drop.ensures.value
    (c.drop_own.ensures.serves a.pc))

pub returns-in-Wait-clause-serves : goal.returns-in-Wait-clause-serves
returns-in-Wait-clause-serves g c =
    let k = kept_of c.args.self.now in
    let n = kept_of c.wait.new.self in
    let memory = c.args.bus.now.memory in
    subst (λ (x : Call). Serves (λ (m : State). served m c.args.process c.args.pc x) k memory n memory) (sym c.in-Wait.is)
    (by_kept _ k n memory (waits c.args.process c.args.pc) (record { memory = refl; log = refl }) c.wait.ensures.kept)
