use Rattle.ds_kernel.proofs.IdleTurns.{idle_goes, idle_good}
use Rattle.ds_kernel.proofs.parts.Parts.idle_ahead.Goals as goal

pub returns-in-Some-clause-good : goal.returns-in-Some-clause-good
returns-in-Some-clause-good g c =
    idle_good c.args.n c.in-Some.end c.args.self.now c.rest_until.new.self c.requires.good c.in-Some.ensures.may c.in-Some.ensures.soon c.in-Some.ensures.within c.requires.few c.rest_until.ensures.held c.rest_until.ensures.next

pub returns-in-Some-clause-goes : goal.returns-in-Some-clause-goes
returns-in-Some-clause-goes g c = λ yes.
    idle_goes c.args.n c.in-Some.end c.args.self.now c.rest_until.new.self c.requires.good c.in-Some.ensures.may c.in-Some.ensures.soon c.in-Some.ensures.within c.requires.few c.rest_until.ensures.held
