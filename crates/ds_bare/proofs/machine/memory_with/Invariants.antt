use Rattle.std.proofs.Common.{◌≡◌}
use Rattle.ds_bare.specs.Machine.{memory_with}
use Rattle.ds_bare.proofs.machine.memory_with.Given as goal

-- the pages so far are there
abbrev pub invariant-loop-page : goal.invariant-loop-page
invariant-loop-page l = l.memory ≡ memory_with l.image l.page
