use Rattle.ds_kernel.specs.Inner.Parts.{held}
use Rattle.ds_kernel.proofs.Refilling.{missed_kernel}
use Rattle.ds_kernel.proofs.Running.{early}
use Rattle.ds_kernel.proofs.parts.Parts.go_at_once.Goals as goal

pub returns-then-is_some-clause-goes : goal.returns-then-is_some-clause-goes
returns-then-is_some-clause-goes g c = λ done.
    let old = c.args.self.now in
    let good = c.requires.good in
    let kernel = missed_kernel old.core (c.refill_missed.ensures.missed done) in
    c.refill_missed.ensures.nearer done c.args.n (early c.args.n (held old) c.requires.going (good.orderly.begun (good.orderly.raised kernel)))
