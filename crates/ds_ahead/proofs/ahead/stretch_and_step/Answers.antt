use Rattle.std.proofs.Common.{◌<◌, ◌-◌, ◌^◌, subst}
use Rattle.std.specs.Prelude.{IfSome}
use Rattle.ds_ahead.specs.Inner.Ahead.{Hardware, hardware_of}
use Rattle.ds_ahead.proofs.Stretches.{join_to, words_join, at_sum}
use Rattle.ds_ahead.proofs.ahead.stretch_and_step.Goals as goal

pub returns-clause-steps : goal.returns-clause-steps
returns-clause-steps g c = join_to (c.args.limit - c.ride-next.new.left) c.go_past_ride-rest.result.steps c.go_past_ride-rest.result.raised
    (hardware_of c.args.core.now c.args.bus.now)
    (hardware_of c.ride-next.new.core c.ride-next.new.bus)
    (hardware_of c.go_past_ride-rest.new.core c.go_past_ride-rest.new.bus)
    c.ride-next.ensures.steps c.go_past_ride-rest.ensures.steps

pub returns-clause-words : goal.returns-clause-words
returns-clause-words g c = words_join (c.args.limit - c.ride-next.new.left) c.go_past_ride-rest.result.steps
    (hardware_of c.args.core.now c.args.bus.now)
    (hardware_of c.ride-next.new.core c.ride-next.new.bus)
    c.ride-next.ensures.steps c.ride-next.ensures.words c.go_past_ride-rest.ensures.words

pub returns-clause-raised : goal.returns-clause-raised
returns-clause-raised g c =
    subst (λ (h : Hardware). IfSome c.go_past_ride-rest.result.raised (λ _. h.core.pc < 2 ^ 32))
    (at_sum (c.args.limit - c.ride-next.new.left) c.go_past_ride-rest.result.steps (hardware_of c.args.core.now c.args.bus.now) (hardware_of c.ride-next.new.core c.ride-next.new.bus) c.ride-next.ensures.steps)
    c.go_past_ride-rest.ensures.raised
