use Rattle.std.proofs.Common.{◌<◌, ◌^◌, subst, arith}
use Rattle.std.specs.Prelude.{Option, Some, None, IfSome}
use Rattle.ds_cp0.specs.declared.exception.ExceptionCode.{ExceptionCode}
use Rattle.ds_ahead.specs.Inner.Ahead.{hardware_of, after_steps, AdvancesTo}
use Rattle.ds_ahead.proofs.Slots.{ticks_of_advance}
use Rattle.ds_ahead.proofs.Stretches.{join_to, words_join, words_to}
use Rattle.ds_ahead.proofs.ahead.run_ahead.Goals as goal

pub returns-in-Some-clause-steps : goal.returns-in-Some-clause-steps
returns-in-Some-clause-steps g c = rw c.stopped.ensures (
    join_to c.loop-steps.steps c.stretch_and_step-went.result.steps (Some c.in-Some.code) (hardware_of c.args.core.now c.args.bus.now)
    (hardware_of c.loop-steps.core c.loop-steps.bus)
    (hardware_of c.stretch_and_step-went.new.core c.stretch_and_step-went.new.bus)
    c.loop-steps.invariant.advances
    (subst (λ (r : Option ExceptionCode). AdvancesTo c.stretch_and_step-went.result.steps r (hardware_of c.loop-steps.core c.loop-steps.bus) (hardware_of c.stretch_and_step-went.new.core c.stretch_and_step-went.new.bus)) c.in-Some.is c.stretch_and_step-went.ensures.steps))

pub returns-in-Some-clause-words : goal.returns-in-Some-clause-words
returns-in-Some-clause-words g c = rw c.stopped.ensures (λ k within.
    words_to c.loop-steps.steps c.stretch_and_step-went.result.steps (hardware_of c.args.core.now c.args.bus.now) (hardware_of c.loop-steps.core c.loop-steps.bus)
    c.loop-steps.invariant.advances c.loop-steps.invariant.words c.stretch_and_step-went.ensures.words
    (subst (λ (r : Option ExceptionCode). IfSome r (λ _. (after_steps c.stretch_and_step-went.result.steps (hardware_of c.loop-steps.core c.loop-steps.bus)).core.pc < 2 ^ 32)) c.in-Some.is c.stretch_and_step-went.ensures.raised)
    k within)

pub loop-steps-preserved : goal.loop-steps-preserved
loop-steps-preserved g c = record {
  within = omega arith;
  advances = join_to c.loop-steps.steps c.stretch_and_step-went.result.steps None (hardware_of c.args.core.now c.args.bus.now)
      (hardware_of c.loop-steps.core c.loop-steps.bus)
      (hardware_of c.stretch_and_step-went.new.core c.stretch_and_step-went.new.bus)
      c.loop-steps.invariant.advances
      (subst (λ (r : Option ExceptionCode). AdvancesTo c.stretch_and_step-went.result.steps r (hardware_of c.loop-steps.core c.loop-steps.bus) (hardware_of c.stretch_and_step-went.new.core c.stretch_and_step-went.new.bus)) c.in_default.is c.stretch_and_step-went.ensures.steps);
  words = words_join c.loop-steps.steps c.stretch_and_step-went.result.steps (hardware_of c.args.core.now c.args.bus.now) (hardware_of c.loop-steps.core c.loop-steps.bus)
      c.loop-steps.invariant.advances c.loop-steps.invariant.words c.stretch_and_step-went.ensures.words;
}

pub returns-clause-ticks : goal.returns-clause-ticks
returns-clause-ticks g c = rw c.calm.ensures (λ _. ticks_of_advance c.loop-steps.steps
    (hardware_of c.args.core.now c.args.bus.now)
    (hardware_of c.loop-steps.core c.loop-steps.bus)
    c.loop-steps.invariant.advances)
