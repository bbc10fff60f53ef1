use Rattle.ds_refinement.proofs.BlockPaths.{block_runs, raised_runs}
use Rattle.ds_refinement.proofs.runs.a_block_is_within_a_run.Goals as goal

pub returns-clause-calm : goal.returns-clause-calm
returns-clause-calm c = block_runs

pub returns-clause-raised : goal.returns-clause-raised
returns-clause-raised c = raised_runs
