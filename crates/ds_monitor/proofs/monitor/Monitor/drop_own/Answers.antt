use Rattle.std.proofs.Common.{sym, subst, refl}
use Rattle.ds_procs.specs.declared.call.Call.TheVariants as call
use Rattle.ds_policy.specs.Grants.{drop_own}
use Rattle.ds_grants.specs.State.{page_state}
use Rattle.ds_pagemap.specs.Machine.{State}
use Rattle.ds_pagemap.specs.Calls.{served}
use Rattle.ds_refinement.specs.Held.{Kept}
use Rattle.ds_refinement.specs.Inner.Services.{Serves}
use Rattle.ds_monitor.specs.Inner.Kept.{kept_of}
use Rattle.ds_monitor.proofs.Granting.{number_serves}
use Rattle.ds_monitor.proofs.Forgetting.{answered_pairs}
use Rattle.ds_monitor.proofs.monitor.Monitor.drop_own.Goals as goal

pub returns-clause-serves : goal.returns-clause-serves
returns-clause-serves g c = λ pc.
    let p = c.args.process in
    let k = kept_of c.args.self.now in
    let x = c.args.memory.now in
    let y = c.drop_page-dropped.new.memory in
    subst (λ (n : Kept). Serves (λ (m : State). served m p pc (call.Drop c.args.address)) k x n y) (sym c.answer.ensures.kept)
    (number_serves (λ (m : State). drop_own m.memory p c.args.address) k x y c.drop_page-dropped.new.self c.drop_page-dropped.new.tables c.drop_page-dropped.new.spaces p c.answer_of.result c.drop_page-dropped.result
    (drop_own (page_state k.grants x) p c.args.address) (record { memory = refl; log = refl })
    (λ log. refl) c.drop_page-dropped.ensures.does c.answer_of.ensures.done c.answer_of.ensures.refused)

pub returns-clause-pairs : goal.returns-clause-pairs
returns-clause-pairs g c =
    answered_pairs _ _ _ c.drop_page-dropped.result (g.L.Lookaside.entries c.args.tlb.now) (g.L.Lookaside.entries c.drop_page-dropped.new.tlb) c.args.address _ c.drop_page-dropped.ensures.entries c.drop_page-dropped.ensures.refused
