use Rattle.std.proofs.Common.{refl}
use Rattle.ds_kernel.proofs.Arriving.{received_is}
use Rattle.ds_kernel.proofs.parts.Parts.receive.Goals as goal

pub returns-clause-state : goal.returns-clause-state
returns-clause-state g c =
    let i = c.loop-character.invariant in
    received_is c.args.self.now c.loop-character.self c.take.new.self i.rest (c.in_default.ensures.none refl) (c.in_default.ensures.later refl) i.serial i.later
