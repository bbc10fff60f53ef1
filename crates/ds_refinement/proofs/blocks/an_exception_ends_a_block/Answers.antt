use Rattle.ds_refinement.proofs.BlockPaths.{raised_is_path, raised_ticks}
use Rattle.ds_refinement.proofs.blocks.an_exception_ends_a_block.Goals as goal

pub returns-clause-path : goal.returns-clause-path
returns-clause-path c = raised_is_path

pub returns-clause-ticks : goal.returns-clause-ticks
returns-clause-ticks c = raised_ticks
