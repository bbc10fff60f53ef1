use Rattle.std.proofs.Common.{ℕ, sym, subst}
use Rattle.ds_pagemap.specs.Unit.{fault}
use Rattle.ds_refinement.specs.declared.step.Step.{Step}
use Rattle.ds_refinement.specs.Units.{ends_in_stop}
use Rattle.ds_refinement.specs.Told.{own_in}
use Rattle.ds_kernel.specs.Inner.Parts.{held}
use Rattle.ds_kernel.specs.Inner.Ended.{HasEnded, DoesStep}
use Rattle.ds_kernel.proofs.Doing.{kernel_of, fault_step, ended_good}
use Rattle.ds_kernel.proofs.parts.Parts.fault.Goals as goal

pub stop-requires-clause-kernel : goal.stop-requires-clause-kernel
stop-requires-clause-kernel g c = kernel_of c.args.self.now.core c.requires.served

pub returns-clause-does : goal.returns-clause-does
returns-clause-does g c =
    let old = c.args.self.now in
    let new = c.stop.new.self in
    subst (λ (s : Step). DoesStep s (held old) (held new)) (sym c.stop.ensures.step)
    (fault_step c.args.process old new c.requires.busy c.requires.served c.requires.left c.args.code c.requires.told
    (subst (λ (k : ℕ). HasEnded (ends_in_stop c.args.process old.core.system.epc (own_in old.core.system) (fault (own_in old.core.system) k)) old new) c.from.ensures
    (subst (λ (n : ℕ). HasEnded (ends_in_stop c.args.process old.core.system.epc (own_in old.core.system) (fault n c.from.result)) old new) c.own_address-own.ensures c.stop.ensures.ends)))

pub returns-clause-good : goal.returns-clause-good
returns-clause-good g c =
    let old = c.args.self.now in
    let new = c.stop.new.self in
    ended_good _ c.args.process old new c.requires.busy c.stop.ensures.ends
    (subst (λ (s : Step). DoesStep s (held old) (held new)) c.stop.ensures.step (returns-clause-does g c))
