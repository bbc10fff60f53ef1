use Rattle.ds_refinement.proofs.Counting.{boundary_moves, idle_moves}
use Rattle.ds_refinement.proofs.counts.a_boundary_is_counted.Goals as goal

pub returns-clause-boundary : goal.returns-clause-boundary
returns-clause-boundary c = boundary_moves

pub returns-clause-idle : goal.returns-clause-idle
returns-clause-idle c = idle_moves
