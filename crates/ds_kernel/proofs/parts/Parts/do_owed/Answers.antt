use Rattle.std.proofs.Common.{sym, ◌∙◌}
use Rattle.ds_kernel.specs.Inner.Parts.{held}
use Rattle.ds_kernel.proofs.Running.{step_goes, goes_join, owed_goes_on}
use Rattle.ds_kernel.proofs.parts.Parts.do_owed.Goals as goal

pub returns-then-is_some-clause-goes : goal.returns-then-is_some-clause-goes
returns-then-is_some-clause-goes g c = λ n start before.
    let old = c.args.self.now in
    let new = c.boundary.new.self in
    let going = owed_goes_on n (held old) (sym c.is_some.ensures ∙ c.if-is_some.true) in
    goes_join n start (held old) (held new) before (step_goes c.boundary.result n (held old) (held new) going c.requires.good.sound c.boundary.ensures.does)
