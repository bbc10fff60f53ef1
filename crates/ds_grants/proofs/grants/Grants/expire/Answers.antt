use Rattle.std.proofs.Common.{◌≤◌, ◌<◌, ◌+◌, ◌∙◌, List, length, map, refl, sym, ap, arith}
use Rattle.ds_tlb.specs.declared.entry.Entry.{Entry}
use Rattle.ds_policy.specs.Pages.{Table}
use Rattle.ds_policy.specs.Ends.{has_expired, expired_entry}
use Rattle.ds_grants.specs.Inner.Changes.{all_forgotten}
use Rattle.ds_grants.specs.State.{GrantsState, page_state}
use Rattle.ds_grants.proofs.Living.{low_pages}
use Rattle.ds_grants.proofs.Expired.{expired_state}
use Rattle.ds_grants.proofs.ChildRows.{places_from}
use Rattle.ds_grants.proofs.ChildSteps.{low_then, rows_step, rows_end, rows_gone}
use Rattle.ds_grants.proofs.grants.Grants.expire.Goals as goal

pub loop-index-preserved : goal.loop-index-preserved
loop-index-preserved g c =
    let end = c.processes-index-end.ensures ∙ ap (λ (t : Table). length t) c.table.ensures.value in
    let size = c.loop-index.invariant.size in
    let within : c.loop-index.index < length c.loop-index.self.table = omega arith in
    let step = rows_step c.loop-index.self c.expire_of.new.self (map (expired_entry c.args.now)) (has_expired c.args.now) c.loop-index.index (c.loop-index.index + 1) refl within c.expire_of.ensures.value in
    record {
      value = step.value ∙ c.loop-index.invariant.value;
      size = step.size ∙ c.loop-index.invariant.size;
      low = low_then c.args.memory.now c.loop-index.memory c.expire_of.new.memory c.loop-index.invariant.low c.expire_of.ensures.low;
      entries =
          ap (λ (entries : List Entry). all_forgotten entries c.args.spaces.now (places_from (has_expired c.args.now) (c.loop-index.index + 1) 1 c.expire_of.new.self.table)) c.expire_of.ensures.entries
          ∙ step.entries (g.L.Lookaside.entries c.loop-index.tlb) c.args.spaces.now
          ∙ c.loop-index.invariant.entries;
      keeps = λ k. c.expire_of.ensures.keeps (c.loop-index.invariant.keeps k);
      random = c.expire_of.ensures.random ∙ c.loop-index.invariant.random;
    }

pub returns-clause-value : goal.returns-clause-value
returns-clause-value g c =
    let end = c.processes-index-end.ensures ∙ ap (λ (t : Table). length t) c.table.ensures.value in
    let size = c.loop-index.invariant.size in
    let past : length c.loop-index.self.table ≤ c.loop-index.index = omega arith in
    sym (rows_end c.loop-index.self (map (expired_entry c.args.now)) c.loop-index.index past) ∙ c.loop-index.invariant.value

pub returns-clause-entries : goal.returns-clause-entries
returns-clause-entries g c =
    let end = c.processes-index-end.ensures ∙ ap (λ (t : Table). length t) c.table.ensures.value in
    let size = c.loop-index.invariant.size in
    let past : length c.loop-index.self.table ≤ c.loop-index.index = omega arith in
    sym (rows_gone c.loop-index.self (has_expired c.args.now) c.loop-index.index (g.L.Lookaside.entries c.loop-index.tlb) c.args.spaces.now past) ∙ c.loop-index.invariant.entries

pub returns-clause-does : goal.returns-clause-does
returns-clause-does g c =
    let end = c.processes-index-end.ensures ∙ ap (λ (t : Table). length t) c.table.ensures.value in
    let size = c.loop-index.invariant.size in
    let past : length c.loop-index.self.table ≤ c.loop-index.index = omega arith in
    let value = sym (rows_end c.loop-index.self (map (expired_entry c.args.now)) c.loop-index.index past) ∙ c.loop-index.invariant.value in
    low_pages c.loop-index.self c.args.memory.now c.loop-index.memory c.loop-index.invariant.low
    ∙ ap (λ (s : GrantsState). page_state s c.args.memory.now) value
    ∙ expired_state c.args.self.now c.args.now c.args.memory.now
