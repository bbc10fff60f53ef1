use Rattle.std.proofs.Common.{◌≡◌, ◌∙◌, ℕ, ◌-◌, ◌<◌, List, length, Option, Some, ap, subst, arith}
use Rattle.ds_policy.specs.declared.grant.Grant.{Grant}
use Rattle.ds_policy.specs.Pages.{Table, names, entry_at, entries_of}
use Rattle.ds_grants.specs.State.{GrantsState}
use Rattle.ds_grants.specs.Inner.Counts.{one_if_named, page_of}
use Rattle.ds_grants.specs.Sound.{NamesPages}
use Rattle.ds_grants.specs.Inner.Sound.{AreCounted}
use Rattle.ds_grants.proofs.HolderCounts.{itself, found_holds, row_holders, counted_within}
use Rattle.ds_grants.proofs.Living.{one_named}
use Rattle.ds_grants.proofs.grants.Grants.table.Goals as goal

-- a page that an entry names has a count
named_within : (t : Table) (holders : List ℕ) (p a q : ℕ) (grant : Grant) → AreCounted t holders → entry_at t p a ≡ Some grant → grant.page ≡ Some q → q < length holders
named_within t holders p a q grant counted is named =
    let one = one_named q grant.page (ap (names q) named ∙ itself q) in
    let found = found_holds q (entries_of t p) a in
    let as_found : one_if_named q (page_of (entry_at t p a)) ≡ one_if_named q grant.page = ap (λ (o : Option Grant). one_if_named q (page_of o)) is in
    let among = row_holders t (p - 1) q in
    let count = counted q in
    counted_within holders q (omega arith)

pub returns-clause-pages : goal.returns-clause-pages
returns-clause-pages c = subst (λ (s : GrantsState). NamesPages s) c.self.view_is (record {
  frames = c.self.invariant.1.frames;
  named = λ p a q grant is named. named_within c.self.inside.table c.self.inside.holders p a q grant c.self.invariant.0 is named;
  layout = c.self.invariant.2;
})
