use Rattle.ds_refinement.proofs.Attended.{served_moves, idle_served_moves}
use Rattle.ds_refinement.proofs.counts.a_served_boundary_is_counted.Goals as goal

pub returns-clause-boundary : goal.returns-clause-boundary
returns-clause-boundary c = served_moves

pub returns-clause-idle : goal.returns-clause-idle
returns-clause-idle c = idle_served_moves
