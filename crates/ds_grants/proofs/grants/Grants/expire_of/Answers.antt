use Rattle.std.proofs.Common.{◌∙◌, List, map, sym, ap, inr}
use Rattle.ds_tlb.specs.declared.entry.Entry.{Entry}
use Rattle.ds_policy.specs.declared.grant.EntryPlace.{EntryPlace}
use Rattle.ds_policy.specs.declared.grant.Grant.{Grant}
use Rattle.ds_policy.specs.Pages.{entries_of}
use Rattle.ds_policy.specs.Ends.{has_expired, expired_entry}
use Rattle.ds_grants.specs.Inner.State.{with_grant}
use Rattle.ds_grants.specs.Inner.Changes.{places_in, all_forgotten}
use Rattle.ds_grants.proofs.ChildSteps.{low_then, step_end}
use Rattle.ds_grants.proofs.Expired.{expired_step, none_left, none_placed_there}
use Rattle.ds_grants.proofs.grants.Grants.expire_of.Goals as goal

pub loop-entry-smaller : goal.loop-entry-smaller
loop-entry-smaller g c =
    let value = c.put.ensures.value ∙ ap (λ (grant : Grant). with_grant c.loop-entry.self c.args.holder c.in-Some.entry.address grant) c.forbidden_by-left.ensures in
    (expired_step c.loop-entry.self c.put.new.self c.args.now c.args.holder c.in-Some.entry c.requires.low c.loop-entry.invariant.high c.in-Some.ensures.row c.in-Some.ensures.value value).shorter

pub loop-entry-preserved : goal.loop-entry-preserved
loop-entry-preserved g c =
    let value = c.put.ensures.value ∙ ap (λ (grant : Grant). with_grant c.loop-entry.self c.args.holder c.in-Some.entry.address grant) c.forbidden_by-left.ensures in
    let step = expired_step c.loop-entry.self c.put.new.self c.args.now c.args.holder c.in-Some.entry c.requires.low c.loop-entry.invariant.high c.in-Some.ensures.row c.in-Some.ensures.value value in
    record {
      value = step.value ∙ c.loop-entry.invariant.value;
      high = step.high;
      low = low_then c.args.memory.now c.loop-entry.memory c.put.new.memory c.loop-entry.invariant.low c.put.ensures.low;
      entries =
          ap (λ (entries : List Entry). all_forgotten entries c.args.spaces.now (places_in (has_expired c.args.now) c.args.holder (entries_of c.put.new.self.table c.args.holder))) c.put.ensures.entries
          ∙ step.entries (g.L.Lookaside.entries c.loop-entry.tlb) c.args.spaces.now
          ∙ c.loop-entry.invariant.entries;
      keeps = λ k. c.put.ensures.keeps (inr c.in-Some.ensures.there) (c.loop-entry.invariant.keeps k);
      random = c.put.ensures.random ∙ c.loop-entry.invariant.random;
    }

pub returns-clause-value : goal.returns-clause-value
returns-clause-value g c =
    let none = none_left c.args.now (entries_of c.loop-entry.self.table c.args.holder) c.in_default.ensures.value in
    sym (step_end c.loop-entry.self (map (expired_entry c.args.now)) c.args.holder none) ∙ c.loop-entry.invariant.value

pub returns-clause-entries : goal.returns-clause-entries
returns-clause-entries g c =
    let none = none_placed_there c.args.now c.args.holder (entries_of c.loop-entry.self.table c.args.holder) c.in_default.ensures.value in
    sym (ap (λ (places : List EntryPlace). all_forgotten (g.L.Lookaside.entries c.loop-entry.tlb) c.args.spaces.now places) none) ∙ c.loop-entry.invariant.entries
