use Rattle.std.proofs.Common.{◌≡◌, ◌-◌, length}
use Rattle.ds_debug.specs.Exits.{others_ended, others_from}
use Rattle.ds_debug.proofs.exits.others_ended.Given as goal

-- it is left to those that were not looked at
abbrev pub invariant-loop-index : goal.invariant-loop-index
invariant-loop-index g l = others_from l.station.held l.process l.index (length l.station.held.kept.state.processes - l.index) ≡ others_ended l.station.held l.process
