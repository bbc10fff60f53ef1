use Rattle.std.proofs.Common.{◌≡◌, ◌+◌, ap, ◌∙◌, arith}
use Rattle.ds_bare_debug.specs.Positions.{Position}
use Rattle.ds_bare_debug.proofs.Positions.{done_after}
use Rattle.ds_bare_debug.proofs.runner.Runner.pass.Goals as goal

pub step-requires : goal.step-requires
step-requires c =
    let at : c.loop.self.done ≡ c.args.self.now.done + c.loop.counter = ap (λ (p : Position). p.done) c.loop.invariant ∙ done_after c.args.self.now c.loop.counter in
    omega (arith, at, c.loop-test.true, c.requires.first, c.requires.few)
