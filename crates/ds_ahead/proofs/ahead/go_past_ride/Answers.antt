use Rattle.std.proofs.Common.{◌≡◌, ◌<◌, ◌^◌, ℕ, sym, subst, ◌∙◌, arith}
use Rattle.ds_ahead.specs.Inner.Ahead.{hardware_of, after_steps}
use Rattle.ds_ahead.proofs.Advances.{advances_none}
use Rattle.ds_ahead.proofs.ahead.go_past_ride.Goals as goal

pub returns-in-Call-clause-steps : goal.returns-in-Call-clause-steps
returns-in-Call-clause-steps g c = rw c.call_after.ensures.value (
  hardware_of c.args.core.now c.args.bus.now,
  advances_none (hardware_of c.args.core.now c.args.bus.now),
  c.call_after.ensures.core c.args.bus.now ∙ c.requires.calls c.in-Call.is,
)

pub returns-in-Plain-clause-words : goal.returns-in-Plain-clause-words
returns-in-Plain-clause-words g c = λ k below.
    let first : k ≡ 0 = omega (arith, below, c.step.ensures.within) in
    subst (λ (j : ℕ). (after_steps j (hardware_of c.args.core.now c.args.bus.now)).core.pc < 2 ^ 32) (sym first) c.step.ensures.word
