use Rattle.std.proofs.Common.{refl, arith}
use Rattle.ds_ahead.specs.Inner.Ahead.{hardware_of}
use Rattle.ds_ahead.proofs.Advances.{advances_none, advances_on, calm_event}
use Rattle.ds_ahead.proofs.ahead.step.Goals as goal

pub returns : goal.returns
returns g c = rw c.calm.ensures (
    let calm = calm_event c.step-event.result c.in_default.not-Raised in
    let start = hardware_of c.args.core.now c.args.bus.now in
    record {
      within = omega arith;
      on = λ _. refl;
      fewer = tt;
      steps = advances_on 0 start start (hardware_of c.step-event.new.self c.step-event.new.bus) c.step-event.result (advances_none start) c.step-event.ensures calm;
      word = grind (arith);
    })
