use Rattle.ds_promise.proofs.Expiry.{boundary_finds, ended_denies}
use Rattle.ds_promise.proofs.ends.an_ended_right_leaves_its_rule.Goals as goal

pub returns-clause-boundary : goal.returns-clause-boundary
returns-clause-boundary c = boundary_finds

pub returns-clause-rule : goal.returns-clause-rule
returns-clause-rule c = ended_denies
