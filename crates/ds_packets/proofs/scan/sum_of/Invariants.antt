use Rattle.std.proofs.Common.{◌≡◌, ◌%◌, ◌^◌, take, sum}
use Rattle.ds_packets.proofs.scan.sum_of.Given as goal

abbrev pub invariant-loop-byte : goal.invariant-loop-byte
invariant-loop-byte l = l.total ≡ sum (take l.byte-index l.text) % 2 ^ 8
