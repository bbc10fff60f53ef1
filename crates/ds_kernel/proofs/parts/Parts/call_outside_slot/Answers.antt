use Rattle.std.proofs.Common.{sym, subst}
use Rattle.ds_refinement.specs.declared.step.Step.{Step}
use Rattle.ds_kernel.specs.Inner.Parts.{held}
use Rattle.ds_kernel.specs.Inner.Ended.{DoesStep}
use Rattle.ds_kernel.proofs.Doing.{kernel_of, call_step, ended_good}
use Rattle.ds_kernel.proofs.parts.Parts.call_outside_slot.Goals as goal

pub call-requires-clause-kernel : goal.call-requires-clause-kernel
call-requires-clause-kernel g c = kernel_of c.args.self.now.core c.requires.served

pub returns-clause-does : goal.returns-clause-does
returns-clause-does g c =
    let old = c.args.self.now in
    let new = c.call.new.self in
    subst (λ (s : Step). DoesStep s (held old) (held new)) (sym c.call.ensures.step)
    (call_step c.args.process old new c.requires.busy c.requires.served c.requires.left c.requires.told c.requires.slot c.call.ensures.ends)

pub returns-clause-good : goal.returns-clause-good
returns-clause-good g c =
    let old = c.args.self.now in
    let new = c.call.new.self in
    ended_good _ c.args.process old new c.requires.busy c.call.ensures.ends
    (subst (λ (s : Step). DoesStep s (held old) (held new)) c.call.ensures.step (returns-clause-does g c))
