use Rattle.std.proofs.Common.{◌∙◌, ◌<◌, ℕ, Option, IfSome, is_some, sym, ap, subst}
use Rattle.ds_policy.specs.Pages.{entry_at}
use Rattle.ds_grants.specs.State.{GrantsState, page_state}
use Rattle.ds_grants.specs.Inner.Copies.{IsMarked}
use Rattle.ds_grants.specs.Inner.Counts.{page_of}
use Rattle.ds_grants.proofs.Copies.{none_there}
use Rattle.ds_grants.proofs.Living.{low_pages, shared_state, one_lives}
use Rattle.ds_grants.proofs.grants.Grants.share.Goals as goal

pub put-requires-clause-whole : goal.put-requires-clause-whole
put-requires-clause-whole g c = ap is_some c.requires.names.named ∙ sym c.requires.right

pub put-requires-clause-page : goal.put-requires-clause-page
put-requires-clause-page g c = subst (λ (o : Option ℕ). IfSome o (λ q. q < c.args.self.now.frames)) (sym c.requires.names.named) c.requires.names.within

pub put-requires-clause-marked : goal.put-requires-clause-marked
put-requires-clause-marked g c = subst (λ (o : Option ℕ). IfSome o (λ q. IsMarked c.args.self.now q)) (sym c.requires.names.named) c.requires.names.marked

pub returns-clause-state : goal.returns-clause-state
returns-clause-state g c =
    low_pages c.put.new.self c.args.memory.now c.put.new.memory c.put.ensures.low
    ∙ ap (λ (s : GrantsState). page_state s c.args.memory.now) c.put.ensures.value
    ∙ shared_state c.args.self.now c.args.receiver c.args.to _ c.args.memory.now c.requires.low c.requires.high (ap page_of (none_there (entry_at c.args.self.now.table c.args.receiver c.args.to) c.requires.free))
    (one_lives c.args.self.now c.args.grant.page c.requires.names.page c.requires.names.named c.requires.names.lives)
