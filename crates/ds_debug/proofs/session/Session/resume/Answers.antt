use Rattle.ds_refinement.proofs.RunSteps.{within_start}
use Rattle.ds_debug.proofs.session.Session.resume.Goals as goal

pub returns-then-self-clause-within : goal.returns-then-self-clause-within
returns-then-self-clause-within c = within_start c.args.self.now.limit c.args.self.now.held

pub returns-in_err-actions-clause-within : goal.returns-in_err-actions-clause-within
returns-in_err-actions-clause-within c = within_start c.args.self.now.limit c.args.self.now.held
