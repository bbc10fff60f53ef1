use Rattle.std.proofs.Common.{◌∙◌, ◌-◌, arith}
use Rattle.ds_ahead.specs.Inner.Ahead.{hardware_of}
use Rattle.ds_ahead.proofs.Advances.{advances_on, comes_on, calm_event}
use Rattle.ds_ahead.proofs.ahead.walk_and_step.Goals as goal

pub returns-in-Call-clause-steps : goal.returns-in-Call-clause-steps
returns-in-Call-clause-steps g c = rw c.call_after.ensures.value (
  hardware_of c.stretch-next.new.core c.stretch-next.new.bus,
  c.stretch-next.ensures.steps,
  c.call_after.ensures.core c.stretch-next.new.bus ∙ c.stretch-next.ensures.calls c.in-Call.is,
)

pub returns : goal.returns
returns g c = rw c.calm-2.ensures (
    let calm = calm_event c.step.result c.in_default-step.not-Raised in
    record {
      within = omega arith;
      on = λ _. omega arith;
      fewer = tt;
      steps = advances_on _ _ (hardware_of c.stretch-next.new.core c.stretch-next.new.bus) (hardware_of c.step.new.self c.step.new.bus) c.step.result c.stretch-next.ensures.steps c.step.ensures calm;
      words = λ k below.
          comes_on (c.args.limit - c.stretch-next.new.left) _ (hardware_of c.stretch-next.new.core c.stretch-next.new.bus)
          c.stretch-next.ensures.words c.stretch-next.ensures.steps (grind (arith)) k (omega arith);
      raised = tt;
    })
