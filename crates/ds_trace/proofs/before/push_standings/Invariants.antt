use Rattle.std.proofs.Common.{◌≡◌, ◌-◌, ◌++◌, drop, map}
use Rattle.ds_trace.proofs.before.push_standings.Given as goal

-- what is added, and how the processes that are left stand, is how all stand
abbrev pub invariant-loop-process : goal.invariant-loop-process
invariant-loop-process g l =
    l.standings.items ++ drop (l.process - 1) (map (λ q. q.standing) l.station.held.kept.state.processes) ≡ l.fn.standings.items ++ map (λ q. q.standing) l.station.held.kept.state.processes
