use Rattle.std.proofs.Common.{◌≤◌, ◌∙◌, ◌+◌, ◌-◌, true, length, slice_index, refl, sym, subst, ap}
use Rattle.ds_policy.proofs.Entries.{refill_set}
use Rattle.ds_grants.specs.State.{GrantsState}
use Rattle.ds_grants.specs.Inner.Counts.{holders_in}
use Rattle.ds_grants.specs.Represented.{IsRepresented}
use Rattle.ds_grants.specs.contracts.grants.Grants.{the_view}
use Rattle.ds_grants.proofs.HolderCounts.{row_counted}
use Rattle.ds_grants.proofs.Emptying.{end_long}
use Rattle.ds_grants.proofs.Sizes.{ended_sound}
use Rattle.ds_grants.proofs.Endings.{ended_state, end_represented}
use Rattle.ds_grants.proofs.grants.Grants.end_process.Goals as goal

pub release_all-requires : goal.release_all-requires
release_all-requires g c =
    let high : c.args.process ≤ length c.self.inside.table = subst (λ (s : GrantsState). c.args.process ≤ length s.table) (sym c.self.view_is) c.requires.high in
    rw c.entries-entries.ensures.all (row_counted c.self.inside.table c.args.process c.self.inside.holders c.requires.low high c.self.invariant.0)

pub clear-requires-clause-rows : goal.clear-requires-clause-rows
clear-requires-clause-rows g c = c.self.invariant.1.rows

pub invariant_of-self : goal.invariant_of-self
invariant_of-self g c =
    let high : c.args.process ≤ length c.self.inside.table = subst (λ (s : GrantsState). c.args.process ≤ length s.table) (sym c.self.view_is) c.requires.high in
    rw (c.clear.ensures, c.deref_mut.ensures.value, refill_set c.self.inside.ended.items (c.args.process - 1) true)
    (ended_sound c.self.inside.table c.self.inside.holders c.release_all.new.self c.self.inside.named c.self.inside.ended.items c.self.inside.layout c.args.process c.requires.low high c.self.invariant
    (λ q. ap (λ es. slice_index c.release_all.new.self q + holders_in q es) (sym c.entries-entries.ensures.all) ∙ c.release_all.ensures.fewer q) c.release_all.ensures.size)

pub returns-clause-does : goal.returns-clause-does
returns-clause-does g c =
    let high : c.args.process ≤ length c.self.inside.table = subst (λ (s : GrantsState). c.args.process ≤ length s.table) (sym c.self.view_is) c.requires.high in
    rw (c.clear.ensures, c.deref_mut.ensures.value, refill_set c.self.inside.ended.items (c.args.process - 1) true, c.release_all.ensures.size, ← c.self.view_is)
    (ended_state (the_view c.self.inside) c.args.process c.args.memory.now c.requires.low high c.self.invariant.1.rows)

pub returns-clause-same : goal.returns-clause-same
returns-clause-same g c =
    let high : c.args.process ≤ length c.self.inside.table = subst (λ (s : GrantsState). c.args.process ≤ length s.table) (sym c.self.view_is) c.requires.high in
    rw (c.clear.ensures, c.release_all.ensures.size, ← c.self.view_is)
    (record { processes = end_long c.self.inside.table c.args.process c.requires.low high c.self.invariant.1.rows; frames = refl; named = refl })

pub returns-clause-keeps : goal.returns-clause-keeps
returns-clause-keeps g c = λ k.
    let high : c.args.process ≤ length c.self.inside.table = subst (λ (s : GrantsState). c.args.process ≤ length s.table) (sym c.self.view_is) c.requires.high in
    let before = subst (λ (s : GrantsState). IsRepresented (g.L.Lookaside.entries c.args.tlb.now) c.args.memory.now c.args.tables.now c.args.spaces.now s) (sym c.self.view_is) k in
    rw (c.give_up.ensures.value, c.close_all.ensures, c.entries-entries.ensures.all, c.clear.ensures, c.deref_mut.ensures.value, refill_set c.self.inside.ended.items (c.args.process - 1) true, c.release_all.ensures.size)
    (end_represented (the_view c.self.inside) c.args.tables.now c.args.process c.requires.low high (g.L.Lookaside.entries c.args.tlb.now) c.args.memory.now c.args.spaces.now c.self.invariant.1.rows before)
