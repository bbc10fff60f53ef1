use Rattle.ds_kernel.specs.Inner.Parts.{held}
use Rattle.ds_kernel.proofs.Doing.{kernel_of}
use Rattle.ds_kernel.proofs.Running.{step_goes, goes_join, raised_goes_on}
use Rattle.ds_kernel.proofs.parts.Parts.serve_waiting.Goals as goal

pub returns-clause-goes : goal.returns-clause-goes
returns-clause-goes g c = λ start before.
    let old = c.args.self.now in
    let served = c.serve.new.self in
    let good = c.requires.busy.good in
    let going = raised_goes_on c.args.n (held old) good.sound good.orderly (kernel_of old.core c.requires.served) (λ some. c.requires.before) in
    c.do_owed.ensures.goes c.args.n start
    (goes_join c.args.n start (held old) (held served) before (step_goes c.serve.result c.args.n (held old) (held served) going good.sound c.serve.ensures.does))
