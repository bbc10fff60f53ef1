use Rattle.ds_refinement.proofs.BlockPaths.{block_is_clear, raised_is_clear}
use Rattle.ds_refinement.proofs.ClearPaths.{clear_inside, clear_join, clear_step}
use Rattle.ds_refinement.proofs.blocks.a_block_is_a_clear_path.Goals as goal

pub returns-clause-calm : goal.returns-clause-calm
returns-clause-calm c = block_is_clear

pub returns-clause-raised : goal.returns-clause-raised
returns-clause-raised c = raised_is_clear

pub returns-clause-step : goal.returns-clause-step
returns-clause-step c = clear_step

pub returns-clause-join : goal.returns-clause-join
returns-clause-join c = clear_join

pub returns-clause-inside : goal.returns-clause-inside
returns-clause-inside c = clear_inside
