use Rattle.std.proofs.Common.{◌≡◌, ◌<◌, ◌∙◌, ℕ, true, Some, refl, sym, ap, subst}
use Rattle.ds_policy.specs.Pages.{entry_at}
use Rattle.ds_grants.specs.State.{GrantsState, is_live}
use Rattle.ds_grants.specs.Inner.Counts.{page_of}
use Rattle.ds_grants.specs.Inner.Copies.{LiesOtherwise}
use Rattle.ds_grants.specs.contracts.grants.Grants.{the_view}
use Rattle.ds_grants.proofs.Kept.{high_kept}
use Rattle.ds_grants.proofs.Living.{low_pages}
use Rattle.ds_grants.proofs.OwnFrames.{written_page, lies_alone}
use Rattle.ds_grants.proofs.grants.Grants.break_copy.Goals as goal

pub give_own_frame-requires-clause-page : goal.give_own_frame-requires-clause-page
give_own_frame-requires-clause-page g c =
    let is = subst (λ (s : GrantsState). entry_at s.table c.args.process c.args.addr ≡ Some c.requires.granted.0) (sym c.self.view_is) c.requires.granted.1 in
    let named = sym (c.page_of.ensures ∙ ap page_of c.entry.ensures) ∙ c.in-Some.is in
    subst (λ (s : GrantsState). c.in-Some.page < s.frames) c.self.view_is
    (written_page (the_view c.self.inside) c.self.inside.holders c.args.process c.args.addr c.in-Some.page c.requires.granted.0 c.requires.process refl c.self.invariant.0 c.self.invariant.1 c.self.invariant.2 is c.requires.granted.2 named).0

pub give_own_frame-requires-clause-lives : goal.give_own_frame-requires-clause-lives
give_own_frame-requires-clause-lives g c =
    let is = subst (λ (s : GrantsState). entry_at s.table c.args.process c.args.addr ≡ Some c.requires.granted.0) (sym c.self.view_is) c.requires.granted.1 in
    let named = sym (c.page_of.ensures ∙ ap page_of c.entry.ensures) ∙ c.in-Some.is in
    subst (λ (s : GrantsState). is_live s c.in-Some.page ≡ true) c.self.view_is
    (written_page (the_view c.self.inside) c.self.inside.holders c.args.process c.args.addr c.in-Some.page c.requires.granted.0 c.requires.process refl c.self.invariant.0 c.self.invariant.1 c.self.invariant.2 is c.requires.granted.2 named).1

pub place-place-requires : goal.place-place-requires
place-place-requires g c =
    let is = subst (λ (s : GrantsState). entry_at s.table c.args.process c.args.addr ≡ Some c.requires.granted.0) (sym c.self.view_is) c.requires.granted.1 in
    let named = sym (c.page_of.ensures ∙ ap page_of c.entry.ensures) ∙ c.in-Some.is in
    subst (λ (n : ℕ). c.in-Some.page < n) (ap (λ (s : GrantsState). s.frames) c.self.view_is ∙ sym (ap (λ (s : GrantsState). s.frames) c.give_own_frame.ensures.frame.1))
    (written_page (the_view c.self.inside) c.self.inside.holders c.args.process c.args.addr c.in-Some.page c.requires.granted.0 c.requires.process refl c.self.invariant.0 c.self.invariant.1 c.self.invariant.2 is c.requires.granted.2 named).0

pub returns-clause-pages : goal.returns-clause-pages
returns-clause-pages g c = low_pages c.give_own_frame.new.self c.give_own_frame.new.memory c.reword_page.new.memory c.reword_page.ensures.low ∙ c.give_own_frame.ensures.pages

pub returns-clause-keeps : goal.returns-clause-keeps
returns-clause-keeps g c = λ k.
    let frame = c.give_own_frame.ensures.frame in
    c.reword_page.ensures.keeps c.args.self.now c.give_own_frame.new.self
    (sym (c.as_table.ensures.value ∙ ap (λ (s : GrantsState). s.table) (c.self-2.view_is ∙ frame.1)))
    (subst (LiesOtherwise c.in-Some.page c.args.self.now) (sym frame.1) (lies_alone c.args.self.now c.in-Some.page frame.0))
    (sym c.place-place.ensures.frame)
    (sym c.place-place.ensures.shared)
    (high_kept (g.L.Lookaside.entries c.args.tlb.now) c.args.memory.now c.give_own_frame.new.memory c.args.tables.now c.args.spaces.now c.args.self.now c.give_own_frame.ensures.high k)
