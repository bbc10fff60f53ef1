use Rattle.std.proofs.Common.{subst}
use Rattle.ds_refinement.specs.Held.{Held}
use Rattle.ds_debug.specs.Inner.Leaps.{HasLeapt}
use Rattle.ds_debug.specs.Goals.{Aim}
use Rattle.ds_debug.proofs.Leaping.{leapt_later}
use Rattle.ds_debug.proofs.leaps.run_ahead.Goals as goal

pub returns-then-is_further-clause-leapt : goal.returns-then-is_further-clause-leapt
returns-then-is_further-clause-leapt g c =
    let aim : Aim = record { actions = c.args.actions.now; breakpoints = c.args.breakpoints.now } in
    subst (λ (h : Held). HasLeapt aim c.args.n h c.run_to.new.station.held) c.in-Ok.ensures.held
    (leapt_later aim c.args.until c.args.n c.requires.until c.in-Ok.ahead.held c.run_to.new.station.held (c.run_to.ensures c.if-run_to.true))
