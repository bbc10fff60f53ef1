use Rattle.std.proofs.Common.{◌+◌, inl, inr, arith}
use Rattle.ds_ahead.specs.Inner.Ahead.{hardware_of}
use Rattle.ds_ahead.proofs.Advances.{calm_event, comes_on}
use Rattle.ds_ahead.proofs.Untils.{GoesClear, goes_clear}
use Rattle.ds_ahead.proofs.until.run_ahead_until.Goals as goal

pub returns-then-is_at_end : goal.returns-then-is_at_end
returns-then-is_at_end g c =
    let start = hardware_of c.args.core.now c.args.bus.now in
    let new = hardware_of c.stretch_until.new.core c.stretch_until.new.bus in
    let goes : GoesClear c.args.stops.now (c.loop-code.steps + 1 + c.stretch_until.result) start new =
    goes_clear c.args.stops.now c.loop-code.steps c.stretch_until.result start (hardware_of c.loop-code.core c.loop-code.bus) (hardware_of c.step.new.self c.step.new.bus) new c.step.result
    c.loop-code.invariant.advances c.loop-code.invariant.words c.loop-code.invariant.clear c.loop-code.invariant.here c.step.ensures (calm_event c.step.result c.in_default.not-Raised) (grind (arith))
    c.stretch_until.ensures.steps c.stretch_until.ensures.words c.stretch_until.ensures.clear in
    rw c.calm.ensures (record {
      within = omega (arith, c.stretch_until.ensures.within);
      on = λ _. omega arith;
      fewer = tt;
      ends = λ _. elim (c.is_at_end.ensures.ends c.if-is_at_end.true) [
        | inl none ↦ inl (omega (arith, none, c.stretch_until.ensures.within))
        | inr stop ↦ inr stop
      ];
      steps = goes.advances;
      words = comes_on (c.loop-code.steps + 1 + c.stretch_until.result) start new goes.words goes.advances c.is_at_end.ensures.word;
      clear = goes.clear;
      raised = tt;
    })

pub loop-code-preserved : goal.loop-code-preserved
loop-code-preserved g c =
    let start = hardware_of c.args.core.now c.args.bus.now in
    let new = hardware_of c.stretch_until.new.core c.stretch_until.new.bus in
    let goes : GoesClear c.args.stops.now (c.loop-code.steps + 1 + c.stretch_until.result) start new =
    goes_clear c.args.stops.now c.loop-code.steps c.stretch_until.result start (hardware_of c.loop-code.core c.loop-code.bus) (hardware_of c.step.new.self c.step.new.bus) new c.step.result
    c.loop-code.invariant.advances c.loop-code.invariant.words c.loop-code.invariant.clear c.loop-code.invariant.here c.step.ensures (calm_event c.step.result c.in_default.not-Raised) (grind (arith))
    c.stretch_until.ensures.steps c.stretch_until.ensures.words c.stretch_until.ensures.clear in
    record {
      within = omega (arith, c.stretch_until.ensures.within, c.is_at_end.ensures.some c.if-is_at_end.false);
      advances = goes.advances;
      words = goes.words;
      clear = goes.clear;
      here = λ _. c.is_at_end.ensures.clear c.if-is_at_end.false;
    }
