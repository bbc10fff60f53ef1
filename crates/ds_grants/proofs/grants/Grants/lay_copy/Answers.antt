use Rattle.std.proofs.Common.{◌≡◌, ◌<◌, true, false, length, refl, sym, subst}
use Rattle.ds_grants.specs.State.{GrantsState, is_live}
use Rattle.ds_grants.specs.contracts.grants.Grants.{the_view}
use Rattle.ds_grants.proofs.Laying.{live_below, laid_copy, copy_marked, sound_copy}
use Rattle.ds_grants.proofs.grants.Grants.lay_copy.Goals as goal

pub invariant_of-self : goal.invariant_of-self
invariant_of-self c =
    let page : c.args.page < length c.self.inside.holders = subst (λ (s : GrantsState). c.args.page < s.frames) (sym c.self.view_is) c.requires.page in
    let lives : is_live (the_view c.self.inside) c.args.page ≡ true = subst (λ (s : GrantsState). is_live s c.args.page ≡ true) (sym c.self.view_is) c.requires.lives in
    let copy : c.args.copy < length c.self.inside.holders = subst (λ (s : GrantsState). c.args.copy < s.frames) (sym c.self.view_is) c.requires.copy in
    let free : is_live (the_view c.self.inside) c.args.copy ≡ false = subst (λ (s : GrantsState). is_live s c.args.copy ≡ false) (sym c.self.view_is) c.requires.free in
    rw c.share.ensures (
      c.self.invariant.0,
      sound_copy (the_view c.self.inside) c.args.page c.args.copy c.self.invariant.1,
      laid_copy (the_view c.self.inside) c.args.page c.args.copy c.self.invariant.2 page lives copy free,
    )

pub returns-clause-marked : goal.returns-clause-marked
returns-clause-marked c =
    let page : c.args.page < length c.self.inside.holders = subst (λ (s : GrantsState). c.args.page < s.frames) (sym c.self.view_is) c.requires.page in
    let lives : is_live (the_view c.self.inside) c.args.page ≡ true = subst (λ (s : GrantsState). is_live s c.args.page ≡ true) (sym c.self.view_is) c.requires.lives in
    let copy : c.args.copy < length c.self.inside.holders = subst (λ (s : GrantsState). c.args.copy < s.frames) (sym c.self.view_is) c.requires.copy in
    let free : is_live (the_view c.self.inside) c.args.copy ≡ false = subst (λ (s : GrantsState). is_live s c.args.copy ≡ false) (sym c.self.view_is) c.requires.free in
    rw c.share.ensures (copy_marked (the_view c.self.inside) c.args.page c.args.copy c.self.invariant.2 page lives copy free
    (live_below (the_view c.self.inside) c.self.inside.holders c.self.invariant.0 refl c.self.invariant.1.named))
