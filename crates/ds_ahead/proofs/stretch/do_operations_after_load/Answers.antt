use Rattle.std.proofs.Common.{◌-◌, subst, refl, arith}
use Rattle.ds_ahead.specs.declared.operations.Outcome.{Outcome}
use Rattle.ds_core.specs.declared.event.Event.TheVariants as event
use Rattle.ds_ahead.specs.Inner.Operations.{HasOutcome}
use Rattle.ds_ahead.proofs.Stretches.{leads_on}
use Rattle.ds_ahead.proofs.stretch.do_operations_after_load.Goals as goal

pub loop-left-preserved : goal.loop-left-preserved
loop-left-preserved g c =
    let done = subst (λ (o : Outcome). HasOutcome o c.loop-left.core c.loop-left.at c.loop-left.bus c.operate_after_load.new.core c.operate_after_load.new.at c.operate_after_load.new.bus) c.in-Loaded.is c.operate_after_load.ensures.outcome in
    record {
      within = omega arith;
      leads = leads_on (c.args.left.now - c.loop-left.left) _ event.Retired c.args.core.now c.args.at.now c.args.bus.now c.loop-left.core c.loop-left.at c.loop-left.bus _ _ _
          c.loop-left.invariant.leads done refl (grind (arith)) c.operate_after_load.ensures.calm (omega arith);
    }

pub returns-in-Done-clause-leads : goal.returns-in-Done-clause-leads
returns-in-Done-clause-leads g c =
    let done = subst (λ (o : Outcome). HasOutcome o c.loop-left.core c.loop-left.at c.loop-left.bus c.operate_after_load.new.core c.operate_after_load.new.at c.operate_after_load.new.bus) c.in-Done.is c.operate_after_load.ensures.outcome in
    leads_on (c.args.left.now - c.loop-left.left) _ event.Retired c.args.core.now c.args.at.now c.args.bus.now c.loop-left.core c.loop-left.at c.loop-left.bus _ _ _
    c.loop-left.invariant.leads done.1 refl (grind (arith)) c.operate_after_load.ensures.calm (omega arith)

pub returns-in-Branched-clause-leads : goal.returns-in-Branched-clause-leads
returns-in-Branched-clause-leads g c =
    let done = subst (λ (o : Outcome). HasOutcome o c.loop-left.core c.loop-left.at c.loop-left.bus c.operate_after_load.new.core c.operate_after_load.new.at c.operate_after_load.new.bus) c.in-Branched.is c.operate_after_load.ensures.outcome in
    leads_on (c.args.left.now - c.loop-left.left) _ event.Branched c.args.core.now c.args.at.now c.args.bus.now c.loop-left.core c.loop-left.at c.loop-left.bus _ _ _
    c.loop-left.invariant.leads done.1 refl (grind (arith)) c.operate_after_load.ensures.calm (omega arith)
