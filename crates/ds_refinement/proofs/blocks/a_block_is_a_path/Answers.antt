use Rattle.ds_refinement.proofs.BlockPaths.{block_is_path}
use Rattle.ds_refinement.proofs.blocks.a_block_is_a_path.Goals as goal

pub returns : goal.returns
returns c = block_is_path
