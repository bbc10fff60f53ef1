use Rattle.std.proofs.Common.{◌-◌, subst, refl, arith}
use Rattle.ds_ahead.specs.declared.operations.Outcome.{Outcome}
use Rattle.ds_core.specs.declared.event.Event.TheVariants as event
use Rattle.ds_ahead.specs.Inner.Operations.{HasOutcome}
use Rattle.ds_ahead.proofs.Stretches.{leads_on, leads_after}
use Rattle.ds_ahead.proofs.stretch.do_operations.Goals as goal

pub loop-left-preserved-in-Done : goal.loop-left-preserved-in-Done
loop-left-preserved-in-Done g c =
    let done = subst (λ (o : Outcome). HasOutcome o c.loop-left.core c.loop-left.at c.loop-left.bus c.operate_at.new.core c.operate_at.new.at c.operate_at.new.bus) c.in-Done.is c.operate_at.ensures.outcome in
    record {
      within = omega arith;
      leads = leads_on (c.args.left.now - c.loop-left.left) _ event.Retired c.args.core.now c.args.at.now c.args.bus.now c.loop-left.core c.loop-left.at c.loop-left.bus _ _ _
          c.loop-left.invariant.leads done.1 refl (grind (arith)) c.operate_at.ensures.calm (omega arith);
      settled = done.0;
    }

pub loop-left-preserved-in-Branched : goal.loop-left-preserved-in-Branched
loop-left-preserved-in-Branched g c =
    let done = subst (λ (o : Outcome). HasOutcome o c.loop-left.core c.loop-left.at c.loop-left.bus c.operate_at.new.core c.operate_at.new.at c.operate_at.new.bus) c.in-Branched.is c.operate_at.ensures.outcome in
    record {
      within = omega arith;
      leads = leads_on (c.args.left.now - c.loop-left.left) _ event.Branched c.args.core.now c.args.at.now c.args.bus.now c.loop-left.core c.loop-left.at c.loop-left.bus _ _ _
          c.loop-left.invariant.leads done.1 refl (grind (arith)) c.operate_at.ensures.calm (omega arith);
      settled = done.0;
    }

pub loop-left-preserved : goal.loop-left-preserved
loop-left-preserved g c =
    let done = subst (λ (o : Outcome). HasOutcome o c.loop-left.core c.loop-left.at c.loop-left.bus c.operate_at.new.core c.operate_at.new.at c.operate_at.new.bus) c.in-Loaded.is c.operate_at.ensures.outcome in
    record {
      within = omega arith;
      leads = leads_after (c.args.left.now - c.loop-left.left) (c.loop-left.left - 1 - c.do_operations_after_load.new.left) _ event.Retired
          c.args.core.now c.args.at.now c.args.bus.now c.loop-left.core c.loop-left.at c.loop-left.bus c.operate_at.new.core c.operate_at.new.at c.operate_at.new.bus _ _ _
          c.loop-left.invariant.leads done refl (grind (arith)) c.operate_at.ensures.calm c.do_operations_after_load.ensures.leads (omega arith);
      settled = c.do_operations_after_load.ensures.settled c.in-Done-do_operations_after_load.is;
    }

pub returns-in-Called-do_operations_after_load-clause-leads : goal.returns-in-Called-do_operations_after_load-clause-leads
returns-in-Called-do_operations_after_load-clause-leads g c =
    let done = subst (λ (o : Outcome). HasOutcome o c.loop-left.core c.loop-left.at c.loop-left.bus c.operate_at.new.core c.operate_at.new.at c.operate_at.new.bus) c.in-Loaded.is c.operate_at.ensures.outcome in
    leads_after (c.args.left.now - c.loop-left.left) (c.loop-left.left - 1 - c.do_operations_after_load.new.left) _ event.Retired
    c.args.core.now c.args.at.now c.args.bus.now c.loop-left.core c.loop-left.at c.loop-left.bus c.operate_at.new.core c.operate_at.new.at c.operate_at.new.bus _ _ _
    c.loop-left.invariant.leads done refl (grind (arith)) c.operate_at.ensures.calm c.do_operations_after_load.ensures.leads (omega arith)

pub returns-in_default-clause-leads : goal.returns-in_default-clause-leads
returns-in_default-clause-leads g c =
    let done = subst (λ (o : Outcome). HasOutcome o c.loop-left.core c.loop-left.at c.loop-left.bus c.operate_at.new.core c.operate_at.new.at c.operate_at.new.bus) c.in-Loaded.is c.operate_at.ensures.outcome in
    leads_after (c.args.left.now - c.loop-left.left) (c.loop-left.left - 1 - c.do_operations_after_load.new.left) _ event.Retired
    c.args.core.now c.args.at.now c.args.bus.now c.loop-left.core c.loop-left.at c.loop-left.bus c.operate_at.new.core c.operate_at.new.at c.operate_at.new.bus _ _ _
    c.loop-left.invariant.leads done refl (grind (arith)) c.operate_at.ensures.calm c.do_operations_after_load.ensures.leads (omega arith)
