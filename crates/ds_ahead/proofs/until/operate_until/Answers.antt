use Rattle.std.proofs.Common.{◌-◌, subst, refl, arith}
use Rattle.ds_ahead.specs.declared.operations.Outcome.{Outcome}
use Rattle.ds_core.specs.declared.event.Event.TheVariants as event
use Rattle.ds_ahead.specs.Inner.Operations.{HasOutcome}
use Rattle.ds_ahead.proofs.Stretches.{leads_on}
use Rattle.ds_ahead.proofs.Untils.{leads_clear}
use Rattle.ds_ahead.proofs.until.operate_until.Goals as goal

pub loop-left-preserved-in-Done : goal.loop-left-preserved-in-Done
loop-left-preserved-in-Done g c =
    let done = subst (λ (o : Outcome). HasOutcome o c.loop-left.core c.loop-left.at c.loop-left.bus c.operate_once.new.core c.operate_once.new.at c.operate_once.new.bus) c.in-Done.is c.operate_once.ensures.outcome in
    record {
      within = omega arith;
      leads = leads_on (c.args.left.now - c.loop-left.left) _ event.Retired c.args.core.now c.args.at.now c.args.bus.now c.loop-left.core c.loop-left.at c.loop-left.bus _ _ _
          c.loop-left.invariant.leads done.1 refl c.may_take.ensures.word c.operate_once.ensures.calm (omega arith);
      clear = leads_clear c.args.stops.now (c.args.left.now - c.loop-left.left) _ c.args.core.now c.args.at.now c.args.bus.now c.loop-left.core c.loop-left.at c.loop-left.bus
          c.loop-left.invariant.leads c.loop-left.invariant.clear (c.may_take.ensures.clear c.if-not-may_take.false) (omega arith);
    }

pub loop-left-preserved-in-Loaded : goal.loop-left-preserved-in-Loaded
loop-left-preserved-in-Loaded g c =
    let done = subst (λ (o : Outcome). HasOutcome o c.loop-left.core c.loop-left.at c.loop-left.bus c.operate_once.new.core c.operate_once.new.at c.operate_once.new.bus) c.in-Loaded.is c.operate_once.ensures.outcome in
    record {
      within = omega arith;
      leads = leads_on (c.args.left.now - c.loop-left.left) _ event.Retired c.args.core.now c.args.at.now c.args.bus.now c.loop-left.core c.loop-left.at c.loop-left.bus _ _ _
          c.loop-left.invariant.leads done refl c.may_take.ensures.word c.operate_once.ensures.calm (omega arith);
      clear = leads_clear c.args.stops.now (c.args.left.now - c.loop-left.left) _ c.args.core.now c.args.at.now c.args.bus.now c.loop-left.core c.loop-left.at c.loop-left.bus
          c.loop-left.invariant.leads c.loop-left.invariant.clear (c.may_take.ensures.clear c.if-not-may_take.false) (omega arith);
    }

pub loop-left-preserved : goal.loop-left-preserved
loop-left-preserved g c =
    let done = subst (λ (o : Outcome). HasOutcome o c.loop-left.core c.loop-left.at c.loop-left.bus c.operate_once.new.core c.operate_once.new.at c.operate_once.new.bus) c.in-Branched.is c.operate_once.ensures.outcome in
    record {
      within = omega arith;
      leads = leads_on (c.args.left.now - c.loop-left.left) _ event.Branched c.args.core.now c.args.at.now c.args.bus.now c.loop-left.core c.loop-left.at c.loop-left.bus _ _ _
          c.loop-left.invariant.leads done.1 refl c.may_take.ensures.word c.operate_once.ensures.calm (omega arith);
      clear = leads_clear c.args.stops.now (c.args.left.now - c.loop-left.left) _ c.args.core.now c.args.at.now c.args.bus.now c.loop-left.core c.loop-left.at c.loop-left.bus
          c.loop-left.invariant.leads c.loop-left.invariant.clear (c.may_take.ensures.clear c.if-not-may_take.false) (omega arith);
    }
