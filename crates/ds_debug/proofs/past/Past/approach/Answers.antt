use Rattle.std.proofs.Common.{◌≤◌, ◌-◌, ◌/◌, sym, subst, arith}
use Rattle.ds_debug.specs.Inner.Past.{PastState}
use Rattle.ds_debug.proofs.past.Past.approach.Goals as goal

pub keep_at-requires : goal.keep_at-requires
keep_at-requires c =
    let early : c.args.time - c.saturating_sub-far.result / 8 ≤ c.args.self.now.limit = omega (arith, c.requires) in
    subst (λ (p : PastState). c.args.time - c.saturating_sub-far.result / 8 ≤ p.limit) (sym c.loop.invariant.same) early
