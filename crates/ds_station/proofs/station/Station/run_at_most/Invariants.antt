use Rattle.std.proofs.Common.{◌<◌, ◌-◌}
use Rattle.ds_refinement.specs.Real.{RealPath}
use Rattle.ds_refinement.specs.Inner.Runs.{RunsWithin}
use Rattle.ds_station.specs.Pieces.{IsFewAfter}
use Rattle.ds_station.proofs.station.Station.run_at_most.Given as goal

-- the pieces so far are the beginning of the run
abbrev pub invariant-loop-piece : goal.invariant-loop-piece
invariant-loop-piece g l = record {
  path : RealPath l.fn.self.held l.self.held;
  within : RunsWithin l.n l.fn.self.held l.self.held;
  some : 0 < l.piece;
  few : IsFewAfter l.most (l.piece - 1) l.fn.self.held l.self.held;
}
