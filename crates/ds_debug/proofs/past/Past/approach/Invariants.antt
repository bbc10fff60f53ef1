use Rattle.std.proofs.Common.{◌≡◌}
use Rattle.ds_debug.proofs.past.Past.approach.Given as goal

-- it is the past of the same run
abbrev pub invariant-loop : goal.invariant-loop
invariant-loop l = record { same : l.self ≡ l.fn.self }
