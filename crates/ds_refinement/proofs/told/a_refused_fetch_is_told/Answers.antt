use Rattle.ds_refinement.proofs.Refusals.{fetch_kind, fetch_answer}
use Rattle.ds_refinement.proofs.told.a_refused_fetch_is_told.Goals as goal

pub returns-clause-kind : goal.returns-clause-kind
returns-clause-kind c = fetch_kind

pub returns-clause-answer : goal.returns-clause-answer
returns-clause-answer c = fetch_answer
