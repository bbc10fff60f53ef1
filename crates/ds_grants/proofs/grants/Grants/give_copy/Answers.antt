use Rattle.std.proofs.Common.{◌≡◌, ◌∙◌, ◌<◌, Some, None, true, refl, sym, ap, subst, inl}
use Rattle.ds_policy.specs.declared.grant.Right.TheVariants.{Write}
use Rattle.ds_grants.specs.State.{GrantsState, page_state, is_live}
use Rattle.ds_grants.specs.Inner.State.{with_grant}
use Rattle.std.specs.Prelude.{slice_index}
use Rattle.ds_grants.specs.Represented.{IsRepresented}
use Rattle.ds_grants.specs.Inner.Copies.{LiesOtherwise}
use Rattle.ds_grants.proofs.Living.{low_pages}
use Rattle.ds_grants.proofs.Copies.{copied_state, none_there}
use Rattle.ds_grants.proofs.Laying.{between, page_differs}
use Rattle.ds_grants.proofs.Lying.{lies_elsewhere, free_elsewhere}
use Rattle.ds_grants.proofs.grants.Grants.give_copy.Goals as goal

pub returns-in-Some-Some-clause-state : goal.returns-in-Some-Some-clause-state
returns-in-Some-Some-clause-state g c =
    let names = c.requires.names in
    let same : names.page ≡ c.in-Some-Some.page = (let both : Some names.page ≡ Some c.in-Some-Some.page = sym names.named ∙ c.in-Some-Some.is-0 in cc) in
    low_pages c.put.new.self c.reword_page.new.memory c.put.new.memory c.put.ensures.low
    ∙ (low_pages c.put.new.self c.args.memory.now c.reword_page.new.memory c.reword_page.ensures.low
    ∙ (ap (λ (s : GrantsState). page_state s c.args.memory.now) (c.put.ensures.value ∙ ap (λ (s : GrantsState). with_grant s c.args.receiver c.args.to (record c.args.grant { right = Write; page = Some c.in-Some-Some.free; giver = c.args.caller; parent = None; until = None })) c.lay_copy.ensures.value)
    ∙ copied_state c.args.self.now c.args.receiver c.args.to c.args.grant c.in-Some-Some.page c.in-Some-Some.free c.args.caller c.args.memory.now c.requires.low c.requires.high
    (none_there _ c.requires.free) c.in-Some-Some.is-0
    (subst (λ q. q < c.args.self.now.frames) same names.within) (subst (λ q. is_live c.args.self.now q ≡ true) same names.lives)
    c.in-Some-Some.ensures.some c.in-Some-Some.ensures.layout.frames))

pub returns-in-Some-Some-clause-keeps : goal.returns-in-Some-Some-clause-keeps
returns-in-Some-Some-clause-keeps g c = λ k.
    let names = c.requires.names in
    let same : names.page ≡ c.in-Some-Some.page = (let both : Some names.page ≡ Some c.in-Some-Some.page = sym names.named ∙ c.in-Some-Some.is-0 in cc) in
    let page = subst (λ q. q < c.args.self.now.frames) same names.within in
    let lives = subst (λ q. is_live c.args.self.now q ≡ true) same names.lives in
    let free = c.in-Some-Some.ensures.some in
    let laid = c.lay_copy.ensures.value in
    let first = lies_elsewhere (g.L.Lookaside.entries c.args.tlb.now) c.args.memory.now c.args.tables.now c.args.spaces.now c.args.self.now (between c.args.self.now c.in-Some-Some.page c.in-Some-Some.free) refl
    (free_elsewhere c.args.self.now c.in-Some-Some.free (slice_index c.args.self.now.lies c.in-Some-Some.page) free.free) k in
    let differs = page_differs c.args.self.now c.in-Some-Some.page c.in-Some-Some.free c.in-Some-Some.ensures.layout page lives free.within free.free in
    let second : IsRepresented (g.L.Lookaside.entries c.reword_page.new.tlb) c.reword_page.new.memory c.args.tables.now c.args.spaces.now c.lay_copy.new.self =
    c.reword_page.ensures.keeps (between c.args.self.now c.in-Some-Some.page c.in-Some-Some.free) c.lay_copy.new.self (sym (c.table.ensures.value ∙ ap (λ (s : GrantsState). s.table) laid))
    (subst (λ (s : GrantsState). LiesOtherwise c.in-Some-Some.page (between c.args.self.now c.in-Some-Some.page c.in-Some-Some.free) s) (sym laid) differs)
    (sym c.place-place.ensures.frame) (sym c.place-place.ensures.shared) first in
    c.put.ensures.keeps (inl (rw laid c.requires.region)) second
