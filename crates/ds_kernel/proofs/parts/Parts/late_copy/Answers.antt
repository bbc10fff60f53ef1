use Rattle.std.proofs.Common.{ap, arith}
use Rattle.ds_cp0.specs.System.{is_user}
use Rattle.ds_core.specs.Core.{CoreState}
use Rattle.ds_refinement.specs.Held.{Own}
use Rattle.ds_refinement.proofs.Late.{grant_of}
use Rattle.ds_kernel.specs.declared.parts.Parts.{Parts}
use Rattle.ds_kernel.proofs.Doing.{back_good, copy_step, copies_few}
use Rattle.ds_kernel.proofs.Copying.{copy_rest, copy_orderly, is_copied, monitor_is}
use Rattle.ds_kernel.proofs.parts.Parts.late_copy.Goals as goal

pub give_own_frame-requires-clause-granted : goal.give_own_frame-requires-clause-granted
give_own_frame-requires-clause-granted g c =
    let old = c.args.self.now in
    let lets = grant_of old.core.system old.monitor.grants c.args.process c.requires.waits in
    (lets.grant, lets.is, lets.right)

pub count_copy-requires : goal.count_copy-requires
count_copy-requires g c =
    let few = copies_few c.args.process c.args.self.now c.args.self.now c.requires.busy c.requires.served c.requires.left c.requires.waits in
    let same = ap (λ (x : Parts g.row.L.Denot). x.services) c.give_own_frame.ensures.rest in
    omega (arith, few, same)

pub returns-clause-rest : goal.returns-clause-rest
returns-clause-rest g c =
    copy_rest c.args.process c.args.self.now c.give_own_frame.new.self c.count_copy.new.self c.go_back.new.self
    c.give_own_frame.ensures.rest c.count_copy.ensures.rest c.go_back.ensures

pub returns-clause-copied : goal.returns-clause-copied
returns-clause-copied g c =
    let gives = c.give_own_frame.ensures in
    is_copied c.args.process c.args.self.now c.give_own_frame.new.self c.count_copy.new.self c.go_back.new.self
    gives.rest c.count_copy.ensures.rest c.go_back.ensures c.count_copy.ensures.own c.requires.busy.good.sound
    gives.pages gives.marks gives.vectors gives.size gives.rewritten gives.keeps gives.names

pub returns-clause-does : goal.returns-clause-does
returns-clause-does g c = copy_step c.args.process c.args.self.now c.go_back.new.self c.requires.busy c.requires.served c.requires.left c.requires.waits (returns-clause-copied g c)

pub returns-clause-good : goal.returns-clause-good
returns-clause-good g c =
    let old = c.args.self.now in
    let new = c.go_back.new.self in
    let copied = returns-clause-copied g c in
    let rest = returns-clause-rest g c in
    let gives = c.give_own_frame.ensures in
    back_good c.args.process old new new.monitor.grants c.requires.busy (ap (λ (x : CoreState). x.slot) copied.core)
    (monitor_is c.args.process old c.give_own_frame.new.self c.count_copy.new.self new gives.rest c.count_copy.ensures.rest c.go_back.ensures)
    (copy_orderly c.args.process old c.give_own_frame.new.self c.count_copy.new.self new gives.rest c.count_copy.ensures.rest c.go_back.ensures gives.same gives.ended gives.pages c.requires.busy.good.orderly.kept)
    (ap (λ (o : Own). o.spent) copied.own) (ap (λ (x : Parts g.row.L.Denot). x.failed) rest)
    (ap (λ (x : CoreState). is_user x.system) copied.core) (returns-clause-does g c)
