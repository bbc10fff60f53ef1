use Rattle.std.proofs.Common.{subst}
use Rattle.ds_refinement.specs.Held.{Held}
use Rattle.ds_kernel.specs.declared.parts.Parts.{Parts}
use Rattle.ds_kernel.specs.Inner.Parts.{held}
use Rattle.ds_kernel.specs.Inner.Ended.{DoesStep}
use Rattle.ds_kernel.specs.Inner.Going.{GoesOn}
use Rattle.ds_kernel.proofs.Running.{step_goes}
use Rattle.ds_kernel.proofs.parts.Parts.run_blocks_or_step.Goals as goal

pub returns-in_ok-begin_block-in-Some-clause-goes : goal.returns-in_ok-begin_block-in-Some-clause-goes
returns-in_ok-begin_block-in-Some-clause-goes g c =
    subst (λ (h : Held). GoesOn c.args.n h (held c.run_blocks.new.self)) c.in_ok-begin_block-in-Some.ensures.still c.run_blocks.ensures.goes

pub returns-in_ok-step-in-None-clause-goes : goal.returns-in_ok-step-in-None-clause-goes
returns-in_ok-step-in-None-clause-goes g c =
    let old = c.args.self.now in
    let same = c.go_at_once.ensures.still c.if-not-go_at_once.true in
    c.do_owed.ensures.goes c.args.n (held old) (step_goes c.in_ok-step-in-None.field-0 c.args.n (held old) (held c.step.new.self) c.requires.going c.requires.good.sound
    (subst (λ (p : Parts g.row.L.Denot). DoesStep c.in_ok-step-in-None.field-0 (held p) (held c.step.new.self)) same c.in_ok-step-in-None.ensures.does))
