use Rattle.std.proofs.Common.{◌≡◌}
use Rattle.ds_bare_debug.specs.Positions.{position_after}
use Rattle.ds_bare_debug.proofs.runner.Runner.pass.Given as goal

-- so many instructions are done
abbrev pub invariant-loop : goal.invariant-loop
invariant-loop l = l.self ≡ position_after l.fn.self l.counter
