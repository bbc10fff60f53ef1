use Rattle.std.proofs.Common.{ℕ, ◌∙◌, sym, ap, subst, arith, length, map, List}
use Rattle.ds_policy.specs.declared.policy.PolicyProcess.{PolicyProcess}
use Rattle.ds_policy.specs.Value.{InputValue}
use Rattle.ds_policy.specs.Ends.{NoneEndsBefore}
use Rattle.ds_grants.specs.State.{GrantsState, pages_in}
use Rattle.ds_grants.specs.First.{first_grants}
use Rattle.ds_asid.specs.Spaces.{Spaces}
use Rattle.ds_asid.specs.Inner.Spaces.{after_take}
use Rattle.ds_grants.specs.Represented.{IsRepresented}
use Rattle.ds_grants.proofs.Handing.{takes_number}
use Rattle.ds_pagemap.specs.First.{first_process, first_state, numbers}
use Rattle.ds_refinement.specs.Held.{Kept}
use Rattle.ds_refinement.specs.First.{first_kept}
use Rattle.ds_refinement.specs.Inner.Stands.{IsKept}
use Rattle.ds_monitor.specs.Inner.Orderly.{IsOrderly}
use Rattle.ds_monitor.specs.Inner.Kept.{kept_of}
use Rattle.ds_monitor.specs.Inner.Coming.{next_due}
use Rattle.ds_monitor.specs.declared.monitor.Monitor.{Monitor}
use Rattle.ds_monitor.proofs.Beginning.{begins, first_is_kept, first_orderly}
use Rattle.ds_monitor.proofs.monitor.Monitor.new.Goals as goal

pub returns-clause-first : goal.returns-clause-first
returns-clause-first g c =
    let policy = c.args.policy.now in
    let images = c.args.images.now in
    ap (λ (m : Monitor). kept_of m) c.look_ahead.ensures
    ∙ (begins policy images c.args.events _ _ _ _ _ _ _ _ _ _ _ _
    (c.in_ok-seats.ensures ∙ ap (map first_process) c.processes.ensures.all)
    (c.all_ready.ensures ∙ ap (λ (ps : List PolicyProcess). numbers (length ps) 1) c.processes-3.ensures.all)
    c.in_ok-queues.ensures c.new-2.ensures c.new-3.ensures.items c.rate.ensures.all (ap (λ (i : InputValue). i.commands) c.new-4.ensures) (ap (λ (i : InputValue). i.characters) c.new-4.ensures) c.in_ok-grants.ensures.state (c.take.ensures.value ∙ ap (λ (s : Spaces). after_take s 1) c.in_ok-grants.ensures.spaces)
    ∙ sym (ap (λ (m : Monitor). first_kept policy images c.args.events m.tables m.ends) c.look_ahead.ensures))

pub returns-clause-kept : goal.returns-clause-kept
returns-clause-kept g c =
    let policy = c.args.policy.now in
    let images = c.args.images.now in
    let memory = c.new.new.memory in
    subst (λ (k : Kept). IsKept k memory (first_state policy images c.args.events)) (sym (returns-clause-first g c))
    (first_is_kept policy images c.args.events c.look_ahead.new.self.tables c.look_ahead.new.self.ends memory (ap (λ (g : GrantsState). pages_in g memory) (sym c.in_ok-grants.ensures.state) ∙ c.in_ok-grants.ensures.pages))

pub returns-clause-orderly : goal.returns-clause-orderly
returns-clause-orderly g c =
    let policy = c.args.policy.now in
    let first : NoneEndsBefore c.end_or_never-ends.result (first_grants policy).table = subst (NoneEndsBefore c.end_or_never-ends.result) (c.table.ensures.value ∙ ap (λ (x : GrantsState). x.table) c.in_ok-grants.ensures.state) (c.end_or_never-ends.ensures c.table.result.now c.next_end.ensures) in
    let before : NoneEndsBefore c.look_ahead.new.self.ends (first_grants policy).table = subst (λ (n : ℕ). NoneEndsBefore n (first_grants policy).table) (sym (ap (λ (m : Monitor). m.ends) c.look_ahead.ensures)) first in
    subst IsOrderly (sym (returns-clause-first g c)) (first_orderly policy c.args.images.now c.args.events c.look_ahead.new.self.tables c.look_ahead.new.self.ends c.processes.ensures.few
    c.processes.ensures.good c.requires.commands before)

pub returns-clause-next : goal.returns-clause-next
returns-clause-next g c =
    ap (λ (m : Monitor). m.quiet_until) c.look_ahead.ensures ∙ sym (ap (λ (m : Monitor). next_due (kept_of m)) c.look_ahead.ensures)

pub returns-clause-represented : goal.returns-clause-represented
returns-clause-represented g c = λ few empty.
    subst (λ (m : Monitor). IsRepresented (g.L.Lookaside.entries c.take.new.tlb) c.new.new.memory m.tables m.spaces m.grants) (sym c.look_ahead.ensures)
    (takes_number g.L.Lookaside.SLOTS 1 few (omega arith) c.take.ensures.buffer c.take.ensures.value (c.in_ok-grants.ensures.represented few empty))
