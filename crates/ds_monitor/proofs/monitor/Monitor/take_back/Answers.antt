use Rattle.std.proofs.Common.{sym, subst, refl}
use Rattle.ds_procs.specs.declared.call.Call.TheVariants as call
use Rattle.ds_policy.specs.Grants.{take}
use Rattle.ds_grants.specs.Inner.Changes.{family_places}
use Rattle.ds_grants.specs.State.{page_state}
use Rattle.ds_grants.specs.Inner.State.{lives_in}
use Rattle.ds_pagemap.specs.Machine.{State, lives}
use Rattle.ds_pagemap.specs.Calls.{served}
use Rattle.ds_refinement.specs.Held.{Kept}
use Rattle.ds_refinement.specs.Inner.Services.{Serves}
use Rattle.ds_monitor.specs.Inner.Kept.{kept_of}
use Rattle.ds_monitor.proofs.Granting.{takes, number_serves}
use Rattle.ds_monitor.proofs.Forgetting.{family_pairs}
use Rattle.ds_monitor.proofs.monitor.Monitor.take_back.Goals as goal

pub returns-clause-serves : goal.returns-clause-serves
returns-clause-serves g c = λ pc.
    let p = c.args.process in
    let k = kept_of c.args.self.now in
    let x = c.args.memory.now in
    let y = c.take-done.new.memory in
    subst (λ (n : Kept). Serves (λ (m : State). served m p pc (call.Take c.args.holder c.args.address)) k x n y) (sym c.answer.ensures.kept)
    (number_serves (λ (m : State). take (lives m) m.memory p c.args.holder c.args.address) k x y c.take-done.new.self c.take-done.new.tables c.take-done.new.spaces p c.answer_of.result c.take-done.result
    (take (lives_in k.grants) (page_state k.grants x) p c.args.holder c.args.address) (record { memory = refl; log = refl })
    (λ log. takes k x log p c.args.holder c.args.address c.requires.marks) c.take-done.ensures.does c.answer_of.ensures.done c.answer_of.ensures.refused)

pub returns-clause-pairs : goal.returns-clause-pairs
returns-clause-pairs g c =
    family_pairs _ _ _ c.take-done.result (g.L.Lookaside.entries c.args.tlb.now) (g.L.Lookaside.entries c.take-done.new.tlb) c.args.self.now.spaces (family_places c.args.self.now.grants.table c.args.holder c.args.address) c.take-done.ensures.entries c.take-done.ensures.refused
