use Rattle.std.proofs.Common.{◌+◌, ◌<◌, ◌∙◌, ℕ, length, refl, sym, ap, subst, arith}
use Rattle.std.specs.Prelude.{slice_index}
use Rattle.ds_grants.specs.State.{GrantsState}
use Rattle.ds_grants.specs.Inner.Frames.{AreLying}
use Rattle.ds_grants.specs.contracts.grants.Grants.{the_view}
use Rattle.ds_grants.proofs.OwnFrames.{none_counted, one_counted_as, none_more, is_counted}
use Rattle.ds_grants.proofs.grants.Grants.pages_by_frame.Goals as goal
use Rattle.ds_grants.proofs.grants.Grants.pages_by_frame.Goals.{then-is_live, else-is_live}

pub loop-page-init : goal.loop-page-init
loop-page-init c = none_counted c.args.self.now _ refl

pub loop-page-preserved : goal.loop-page-preserved
loop-page-preserved c =
    elim c.if-is_live.branch [
      | then-is_live w ↦
          let test = c.loop-page-test.true in
          let all = c.pages-page-end.ensures in
          let within : c.loop-page.page < length c.self.inside.holders = omega (arith, test, all) in
          let low = is_counted (the_view c.self.inside) c.loop-page.page c.self.invariant.2 c.self.invariant.1.frames within in
          let lies = w.frame_of.ensures ∙ ap (λ (s : GrantsState). slice_index s.lies c.loop-page.page) c.self-in-loop-page.view_is in
          one_counted_as c.args.self.now c.loop-page.page w.frame_of.result c.loop-page.counts c.if-is_live.counts lies
          (subst (λ (f : ℕ). f < 1024) (ap (λ (s : GrantsState). slice_index s.lies c.loop-page.page) c.self.view_is ∙ sym lies) low)
          (sym c.is_live.ensures ∙ w.if-is_live.true) w.counts-is c.loop-page.invariant
      | else-is_live w ↦
          subst (AreLying c.args.self.now (c.loop-page.page + 1)) (sym w.counts-is)
          (none_more c.args.self.now c.loop-page.page c.loop-page.counts (sym c.is_live.ensures ∙ w.if-is_live.false) c.loop-page.invariant)
    ]
