use Rattle.std.proofs.Common.{◌≡◌, ◌+◌, ◌-◌, length}
use Rattle.ds_station.specs.Outcome.{first_unended, unended_from}
use Rattle.ds_station.proofs.station.Station.first_unended.Given as goal

-- the first of those that are left is the first of all
abbrev pub invariant-loop-process : goal.invariant-loop-process
invariant-loop-process g l =
    unended_from l.self.held.kept.state l.process (length l.self.held.kept.state.processes + 1 - l.process) ≡ first_unended l.self.held.kept.state
