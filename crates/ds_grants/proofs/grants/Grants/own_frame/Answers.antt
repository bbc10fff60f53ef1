use Rattle.std.proofs.Common.{rules, ◌≡◌, ◌<◌, ◌≤◌, ◌∙◌, ℕ, length, refl, sym, ap, subst, arith}
use Rattle.std.specs.Prelude.{slice_index}
use Rattle.ds_grants.specs.State.{GrantsState}
use Rattle.ds_grants.specs.contracts.grants.Grants.{the_view}
use Rattle.ds_grants.proofs.Laying.{live_below}
use Rattle.ds_grants.proofs.OwnFrames.{AreBelow, is_counted, alone_there, alone_free, alone_never}
use Rattle.ds_grants.proofs.grants.Grants.own_frame.Goals as goal

pub returns-then-counts-frame-lt2-clause-alone : goal.returns-then-counts-frame-lt2-clause-alone
returns-then-counts-frame-lt2-clause-alone c =
    let within : c.args.page < length c.self.inside.holders = subst (λ (s : GrantsState). c.args.page < s.frames) (sym c.self.view_is) c.requires.page in
    let low = is_counted (the_view c.self.inside) c.args.page c.self.invariant.2 c.self.invariant.1.frames within in
    alone_there c.args.self.now c.pages_by_frame-counts.result c.args.page c.frame_of-frame.result c.pages_by_frame-counts.ensures
    (subst AreBelow c.self.view_is (live_below (the_view c.self.inside) c.self.inside.holders c.self.invariant.0 refl c.self.invariant.1.named))
    c.requires.page c.requires.lives
    (c.frame_of-frame.ensures ∙ ap (λ (s : GrantsState). slice_index s.lies c.args.page) c.self.view_is)
    (subst (λ (f : ℕ). f < 1024) (sym c.frame_of-frame.ensures) low) c.if-counts-frame-lt2.true

pub returns-in-Some-clause-alone : goal.returns-in-Some-clause-alone
returns-in-Some-clause-alone c =
    let few = c.self.invariant.1.frames in
    let all = c.pages.ensures in
    let found : (c.in-Some.free < c.pages.result) × (slice_index c.pages_by_frame-counts.result c.in-Some.free ≡ 0) = search rules in
    let below = found.0 in
    let low : c.in-Some.free < 1024 = omega (arith, below, all, few) in
    alone_free c.args.self.now c.pages_by_frame-counts.result c.args.page c.in-Some.free c.pages_by_frame-counts.ensures
    (subst AreBelow c.self.view_is (live_below (the_view c.self.inside) c.self.inside.holders c.self.invariant.0 refl c.self.invariant.1.named))
    low found.1

pub returns-in-None-clause-alone : goal.returns-in-None-clause-alone
returns-in-None-clause-alone c =
    let within : c.args.page < length c.self.inside.holders = subst (λ (s : GrantsState). c.args.page < s.frames) (sym c.self.view_is) c.requires.page in
    let low = c.self.invariant.2.within c.args.page within in
    let there : c.frame_of-frame.result < c.args.self.now.frames = subst (λ (s : GrantsState). c.frame_of-frame.result < s.frames) c.self.view_is (subst (λ (f : ℕ). f < length c.self.inside.holders) (sym c.frame_of-frame.ensures) low) in
    let few : c.args.self.now.frames ≤ 1024 = subst (λ (s : GrantsState). s.frames ≤ 1024) c.self.view_is c.self.invariant.1.frames in
    let all : (f : ℕ) → f < c.pages.result → 0 < slice_index c.pages_by_frame-counts.result f = search rules in
    let same : c.pages.result ≡ c.args.self.now.frames = c.pages.ensures ∙ ap (λ (s : GrantsState). s.frames) c.self.view_is in
    let test = c.if-counts-frame-lt2.false in
    alone_never c.args.self.now c.pages_by_frame-counts.result c.args.page c.frame_of-frame.result c.pages_by_frame-counts.ensures few there (omega (arith, test))
    (λ f below. all f (subst (λ (n : ℕ). f < n) (sym same) below))
