use Rattle.std.proofs.Common.{◌≡◌, ◌+◌, ◌≤◌, ◌++◌, length, option_map}
use Rattle.ds_packets.specs.Framing.{unescaped}
use Rattle.ds_packets.proofs.data.unescaped.Given as goal

abbrev pub invariant-loop-left : goal.invariant-loop-left
invariant-loop-left l = record {
  same : option_map (λ bytes. l.data ++ bytes) (unescaped l.left) ≡ unescaped l.text;
  room : length l.data + length l.left ≤ 4096;
}

abbrev pub decreases-loop-left : goal.decreases-loop-left
decreases-loop-left l = length l.left
