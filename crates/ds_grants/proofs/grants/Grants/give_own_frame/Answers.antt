use Rattle.std.proofs.Common.{◌≡◌, ◌+◌, ◌<◌, ◌∙◌, ℕ, length, true, refl, sym, ap, ap₂, subst, arith}
use Rattle.ds_mem.specs.Memory.{frame_of, with_frame}
use Rattle.ds_grants.specs.State.{GrantsState, is_live, page_state}
use Rattle.ds_grants.specs.contracts.grants.Grants.{the_view}
use Rattle.ds_grants.proofs.Laying.{live_below}
use Rattle.ds_grants.proofs.OwnFrames.{IsAlone, laid_own, sound_own, high_own, state_own}
use Rattle.ds_grants.proofs.grants.Grants.give_own_frame.Goals as goal

pub invariant_of-self : goal.invariant_of-self
invariant_of-self c =
    let within : c.args.page < length c.self.inside.holders = subst (λ (s : GrantsState). c.args.page < s.frames) (sym c.self.view_is) c.requires.page in
    let live : is_live (the_view c.self.inside) c.args.page ≡ true = subst (λ (s : GrantsState). is_live s c.args.page ≡ true) (sym c.self.view_is) c.requires.lives in
    let inside : c.own_frame-own.result < length c.self.inside.holders = subst (λ (s : GrantsState). c.own_frame-own.result < s.frames) (sym c.self.view_is) c.own_frame-own.ensures.within in
    let alone : IsAlone (the_view c.self.inside) c.args.page c.own_frame-own.result = subst (λ (s : GrantsState). IsAlone s c.args.page c.own_frame-own.result) (sym c.self.view_is) c.own_frame-own.ensures.alone in
    let below = live_below (the_view c.self.inside) c.self.inside.holders c.self.invariant.0 refl c.self.invariant.1.named in
    rw c.give_own.ensures (
      c.self.invariant.0,
      sound_own (the_view c.self.inside) c.args.page c.own_frame-own.result c.self.invariant.2 below within live inside alone c.self.invariant.1,
      laid_own (the_view c.self.inside) c.args.page c.own_frame-own.result c.self.invariant.2 below within live inside alone,
    )

pub returns-clause-pages : goal.returns-clause-pages
returns-clause-pages c =
    let within : c.args.page < length c.self.inside.holders = subst (λ (s : GrantsState). c.args.page < s.frames) (sym c.self.view_is) c.requires.page in
    let live : is_live (the_view c.self.inside) c.args.page ≡ true = subst (λ (s : GrantsState). is_live s c.args.page ≡ true) (sym c.self.view_is) c.requires.lives in
    let inside : c.own_frame-own.result < length c.self.inside.holders = subst (λ (s : GrantsState). c.own_frame-own.result < s.frames) (sym c.self.view_is) c.own_frame-own.ensures.within in
    let alone : IsAlone (the_view c.self.inside) c.args.page c.own_frame-own.result = subst (λ (s : GrantsState). IsAlone s c.args.page c.own_frame-own.result) (sym c.self.view_is) c.own_frame-own.ensures.alone in
    let below = live_below (the_view c.self.inside) c.self.inside.holders c.self.invariant.0 refl c.self.invariant.1.named in
    let size = c.copy_frame.ensures.size in
    let is = c.copy_frame.ensures.value
    ∙ ap₂ (λ (to from : ℕ). with_frame c.args.memory.now to (frame_of c.args.memory.now from)) c.frame_in_memory-2.ensures (c.frame_in_memory.ensures ∙ ap (λ (n : ℕ). n + 402) c.frame_of-old.ensures) in
    rw c.give_own.ensures (state_own (the_view c.self.inside) c.args.page c.own_frame-own.result c.self.invariant.2 below within live inside alone c.args.memory.now c.copy_frame.new.self c.self.invariant.1.frames (omega (arith, size)) is ∙ ap (λ (s : GrantsState). page_state s c.args.memory.now) c.self.view_is)

pub returns-clause-high : goal.returns-clause-high
returns-clause-high c =
    let within : c.args.page < length c.self.inside.holders = subst (λ (s : GrantsState). c.args.page < s.frames) (sym c.self.view_is) c.requires.page in
    let live : is_live (the_view c.self.inside) c.args.page ≡ true = subst (λ (s : GrantsState). is_live s c.args.page ≡ true) (sym c.self.view_is) c.requires.lives in
    let inside : c.own_frame-own.result < length c.self.inside.holders = subst (λ (s : GrantsState). c.own_frame-own.result < s.frames) (sym c.self.view_is) c.own_frame-own.ensures.within in
    let alone : IsAlone (the_view c.self.inside) c.args.page c.own_frame-own.result = subst (λ (s : GrantsState). IsAlone s c.args.page c.own_frame-own.result) (sym c.self.view_is) c.own_frame-own.ensures.alone in
    let below = live_below (the_view c.self.inside) c.self.inside.holders c.self.invariant.0 refl c.self.invariant.1.named in
    let size = c.copy_frame.ensures.size in
    let is = c.copy_frame.ensures.value
    ∙ ap₂ (λ (to from : ℕ). with_frame c.args.memory.now to (frame_of c.args.memory.now from)) c.frame_in_memory-2.ensures (c.frame_in_memory.ensures ∙ ap (λ (n : ℕ). n + 402) c.frame_of-old.ensures) in
    high_own (the_view c.self.inside) c.args.page c.own_frame-own.result c.self.invariant.2 below within live inside alone c.args.memory.now c.copy_frame.new.self c.self.invariant.1.frames (omega (arith, size)) is
