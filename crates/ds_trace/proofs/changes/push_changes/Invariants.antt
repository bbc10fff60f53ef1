use Rattle.std.proofs.Common.{◌≡◌, ◌-◌, ◌++◌, drop, map}
use Rattle.std.specs.String.{string_bytes}
use Rattle.ds_trace.specs.Changes.{standings_text}
use Rattle.ds_trace.proofs.changes.push_changes.Given as goal

-- what is written, and what the processes that are left will add, is what all say
abbrev pub invariant-loop-process : goal.invariant-loop-process
invariant-loop-process g l =
    string_bytes l.line ++ standings_text l.view l.station.held.kept.state.time l.before l.process (drop (l.process - 1) (map (λ q. q.standing) l.station.held.kept.state.processes))
    ≡ string_bytes l.fn.line ++ standings_text l.view l.station.held.kept.state.time l.before 1 (map (λ q. q.standing) l.station.held.kept.state.processes)
