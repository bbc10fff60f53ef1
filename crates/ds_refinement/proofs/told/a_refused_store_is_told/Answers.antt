use Rattle.ds_refinement.proofs.Refusals.{store_kind, store_answer}
use Rattle.ds_refinement.proofs.told.a_refused_store_is_told.Goals as goal

pub returns-clause-kind : goal.returns-clause-kind
returns-clause-kind c = store_kind

pub returns-clause-answer : goal.returns-clause-answer
returns-clause-answer c = store_answer
