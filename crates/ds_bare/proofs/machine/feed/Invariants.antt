use Rattle.std.proofs.Common.{◌≡◌, length}
use Rattle.ds_bare.specs.Machine.{bus_fed, still_coming}
use Rattle.ds_bare.proofs.machine.feed.Given as goal

-- what is left to come leads to what all lead to
abbrev pub invariant-loop-left : goal.invariant-loop-left
invariant-loop-left l = record {
  bus : bus_fed l.time l.left l.bus ≡ bus_fed l.time l.coming l.fn.bus;
  rest : still_coming l.time l.left ≡ still_coming l.time l.coming;
}

abbrev pub decreases-loop-left : goal.decreases-loop-left
decreases-loop-left l = length l.left
