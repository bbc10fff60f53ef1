use Rattle.std.proofs.Common.{◌≡◌, sym, subst, arith}
use Rattle.ds_policy.specs.declared.access.Verdict.TheVariants.{Allowed, Denied}
use Rattle.ds_policy.specs.Pages.{decide}
use Rattle.ds_pagemap.specs.Unit.{denied_as}
use Rattle.ds_refinement.specs.declared.step.Step.{Step}
use Rattle.ds_kernel.specs.Inner.Parts.{held}
use Rattle.ds_kernel.specs.Inner.Ended.{DoesStep}
use Rattle.ds_kernel.proofs.Doing.{kernel_of, verdict_is, denied_small, stopped_as, denied_step, awaits, ended_good}
use Rattle.ds_kernel.proofs.parts.Parts.miss.Goals as goal

pub stop-requires-clause-code : goal.stop-requires-clause-code
stop-requires-clause-code g c =
    let old = c.args.self.now in
    let few = denied_small old.monitor.grants.table c.args.process c.args.access old.core.system.bad_vaddr c.in-Denied.rule c.in-Denied.code
    (verdict_is _ old.monitor.grants.table c.args.process c.args.access _ old.core.system.bad_vaddr _ (Denied c.in-Denied.rule c.in-Denied.code) c.decide.ensures.exact c.table.ensures.value c.bad_address-address.ensures c.in-Denied.is) in
    omega (arith, few)

pub stop-requires-clause-kernel : goal.stop-requires-clause-kernel
stop-requires-clause-kernel g c = kernel_of c.args.self.now.core c.requires.served

pub late_copy-requires-clause-waits : goal.late_copy-requires-clause-waits
late_copy-requires-clause-waits g c =
    let old = c.args.self.now in
    let decides : decide old.monitor.grants.table c.args.process c.args.access.kind c.args.access.size old.core.system.bad_vaddr ≡ Allowed c.in-Allowed.page c.in-Allowed.offset =
    verdict_is _ old.monitor.grants.table c.args.process c.args.access _ old.core.system.bad_vaddr _ (Allowed c.in-Allowed.page c.in-Allowed.offset) c.decide.ensures.exact c.table.ensures.value c.bad_address-address.ensures c.in-Allowed.is in
    awaits c.args.process old old c.requires.busy c.requires.served c.requires.left c.args.access c.in-Allowed.page c.in-Allowed.offset c.requires.told decides

pub returns-in-Denied-clause-does : goal.returns-in-Denied-clause-does
returns-in-Denied-clause-does g c =
    let old = c.args.self.now in
    let new = c.stop.new.self in
    let denied : decide old.monitor.grants.table c.args.process c.args.access.kind c.args.access.size old.core.system.bad_vaddr ≡ Denied c.in-Denied.rule c.in-Denied.code =
    verdict_is _ old.monitor.grants.table c.args.process c.args.access _ old.core.system.bad_vaddr _ (Denied c.in-Denied.rule c.in-Denied.code) c.decide.ensures.exact c.table.ensures.value c.bad_address-address.ensures c.in-Denied.is in
    subst (λ (s : Step). DoesStep s (held old) (held new)) (sym c.stop.ensures.step)
    (denied_step c.args.process old new c.requires.busy c.requires.served c.requires.left c.args.access c.in-Denied.rule c.in-Denied.code c.requires.told denied
    (stopped_as c.args.process old new c.denied_as.result (denied_as c.args.access.kind) c.bad_address-address.result old.core.system.bad_vaddr c.in-Denied.rule c.in-Denied.code c.denied_as.ensures c.bad_address-address.ensures c.stop.ensures.ends))

pub returns-in-Denied-clause-good : goal.returns-in-Denied-clause-good
returns-in-Denied-clause-good g c =
    let old = c.args.self.now in
    let new = c.stop.new.self in
    ended_good _ c.args.process old new c.requires.busy c.stop.ensures.ends
    (subst (λ (s : Step). DoesStep s (held old) (held new)) c.stop.ensures.step (returns-in-Denied-clause-does g c))
