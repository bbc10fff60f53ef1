use Rattle.std.proofs.Common.{◌≡◌, ◌≤◌, length}
use Rattle.ds_packets.specs.Packets.{number_from}
use Rattle.ds_packets.proofs.reading.number_from.Given as goal

-- what is left goes on to what all digits say
abbrev pub invariant-loop-left : goal.invariant-loop-left
invariant-loop-left l = record {
  goes : number_from l.number l.left ≡ number_from 0 l.digits;
  few : l.number ≤ 1000000000;
}

abbrev pub decreases-loop-left : goal.decreases-loop-left
decreases-loop-left l = length l.left
