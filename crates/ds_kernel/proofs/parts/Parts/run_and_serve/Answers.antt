use Rattle.std.proofs.Common.{◌≡◌, ◌≤◌, arith}
use Rattle.ds_kernel.specs.Inner.Parts.{held}
use Rattle.ds_kernel.proofs.parts.Parts.run_and_serve.Goals as goal

pub serve_raised-requires-clause-begun : goal.serve_raised-requires-clause-begun
serve_raised-requires-clause-begun g c = c.run_block-called.ensures.goes.begun

pub returns-clause-goes : goal.returns-clause-goes
returns-clause-goes g c = c.serve_raised.ensures.goes (held c.args.self.now) c.run_block-called.ensures.goes

pub returns-clause-quiet : goal.returns-clause-quiet
returns-clause-quiet g c = λ on.
    let until : c.serve_raised.new.self.monitor.quiet_until ≡ c.run_block-called.new.self.monitor.quiet_until = c.serve_raised.ensures.until on in
    let quiet : c.args.end ≤ c.run_block-called.new.self.monitor.quiet_until = c.run_block-called.ensures.quiet in
    omega (arith, until, quiet)
