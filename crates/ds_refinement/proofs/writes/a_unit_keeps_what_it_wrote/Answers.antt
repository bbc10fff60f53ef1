use Rattle.ds_refinement.proofs.Staying.{inside_keeps, keeps_again, none_written}
use Rattle.ds_refinement.proofs.writes.a_unit_keeps_what_it_wrote.Goals as goal

pub returns-clause-step : goal.returns-clause-step
returns-clause-step c = inside_keeps

pub returns-clause-join : goal.returns-clause-join
returns-clause-join c = keeps_again

pub returns-clause-none : goal.returns-clause-none
returns-clause-none c = none_written
