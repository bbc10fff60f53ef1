use Rattle.std.proofs.Common.{ap, subst}
use Rattle.ds_kernel.specs.declared.parts.Parts.{Parts}
use Rattle.ds_kernel.specs.Inner.Parts.{held}
use Rattle.ds_kernel.specs.Inner.Ended.{DoesStep}
use Rattle.ds_kernel.specs.Inner.Going.{GoesOn}
use Rattle.ds_refinement.proofs.ClearPaths.{clear_step}
use Rattle.ds_kernel.proofs.Refilling.{missed_kernel}
use Rattle.ds_kernel.proofs.Running.{early, step_goes}
use Rattle.ds_kernel.proofs.Untils.{refilled_clear}
use Rattle.ds_kernel.proofs.parts.Parts.run_block_until_or_step.Goals as goal

pub returns-in_ok-step-in-None-clause-goes : goal.returns-in_ok-step-in-None-clause-goes
returns-in_ok-step-in-None-clause-goes g c =
    let same = c.refill_missed.ensures.still c.if-not-refill_missed.true in
    let kind = c.in_ok-step-in-None.field-0 in
    step_goes kind c.args.n (held c.args.self.now) (held c.step.new.self) c.requires.going c.requires.good.sound
    (subst (λ (p : Parts g.row.L.Denot). DoesStep kind (held p) (held c.step.new.self)) same c.in_ok-step-in-None.ensures.does)

pub returns-in_ok-step-in-None-clause-clear : goal.returns-in_ok-step-in-None-clause-clear
returns-in_ok-step-in-None-clause-clear g c =
    let same = c.refill_missed.ensures.still c.if-not-refill_missed.true in
    let kind = c.in_ok-step-in-None.field-0 in
    let does : DoesStep kind (held c.args.self.now) (held c.step.new.self) = subst (λ (p : Parts g.row.L.Denot). DoesStep kind (held p) (held c.step.new.self)) same c.in_ok-step-in-None.ensures.does in
    clear_step c.args.stops.now kind (held c.args.self.now) (held c.step.new.self) does.follows does.moves does.real

pub returns-else-not-refill_missed-clause-goes : goal.returns-else-not-refill_missed-clause-goes
returns-else-not-refill_missed-clause-goes g c =
    let done = c.if-not-refill_missed.false in
    let orderly = c.requires.good.orderly in
    let kernel = missed_kernel c.args.self.now.core (c.refill_missed.ensures.missed done) in
    c.refill_missed.ensures.nearer done c.args.n (early c.args.n (held c.args.self.now) c.requires.going (orderly.begun (orderly.raised kernel)))

pub returns-else-not-refill_missed-clause-clear : goal.returns-else-not-refill_missed-clause-clear
returns-else-not-refill_missed-clause-clear g c =
    let done = c.if-not-refill_missed.false in
    let orderly = c.requires.good.orderly in
    let kernel = missed_kernel c.args.self.now.core (c.refill_missed.ensures.missed done) in
    let goes : GoesOn c.args.n (held c.args.self.now) (held c.refill_missed.new.self) = c.refill_missed.ensures.nearer done c.args.n (early c.args.n (held c.args.self.now) c.requires.going (orderly.begun (orderly.raised kernel))) in
    refilled_clear c.args.stops.now c.args.n c.args.self.now c.refill_missed.new.self c.requires.good kernel goes (ap (λ (p : Parts g.row.L.Denot). p.monitor.time) c.refill_missed.ensures.rest)
