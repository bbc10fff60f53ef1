use Rattle.std.proofs.Common.{rules, Option, subst, arith}
use Rattle.ds_debug.specs.Goals.{goal_with}
use Rattle.ds_debug.specs.Inner.Past.{FindsFrom, IsKept}
use Rattle.ds_debug.specs.declared.places.Place.{Place}
use Rattle.ds_debug.proofs.Keeping.{found_kept}
use Rattle.ds_debug.proofs.past.Past.seek.Goals as goal

pub returns-in-Ok-Some-clause-finds : goal.returns-in-Ok-Some-clause-finds
returns-in-Ok-Some-clause-finds c =
    let kept : IsKept c.args.self.now.inputs c.args.self.now.limit c.index-station.result.now.held = search rules in
    found_kept c.args.self.now.inputs c.args.self.now.limit c.args.sought (goal_with c.args.actions.now c.args.breakpoints.now c.args.watchpoints.now) c.args.until c.in-Ok-Some.place c.index-station.result.now.held
    kept (omega (arith, c.if-time-until.true, c.time.ensures.held))
    (subst (λ (o : Option Place). FindsFrom c.args.sought (goal_with c.args.actions.now c.args.breakpoints.now c.args.watchpoints.now) c.args.until o c.index-station.result.now.held) c.in-Ok-Some.field-0-is c.in-Ok-Some.ensures.finds)
