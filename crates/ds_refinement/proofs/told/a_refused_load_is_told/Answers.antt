use Rattle.ds_refinement.proofs.Refusals.{load_kind, load_answer}
use Rattle.ds_refinement.proofs.told.a_refused_load_is_told.Goals as goal

pub returns-clause-kind : goal.returns-clause-kind
returns-clause-kind c = load_kind

pub returns-clause-answer : goal.returns-clause-answer
returns-clause-answer c = load_answer
