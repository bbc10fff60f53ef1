use Rattle.std.proofs.Common.{◌≡◌, ◌%◌, ◌^◌, ◌++◌, ◌∷◌, take, sum}
use Rattle.ds_packets.specs.Framing.{escaped}
use Rattle.ds_packets.proofs.frame.push_frame.Given as goal

abbrev pub invariant-loop-byte : goal.invariant-loop-byte
invariant-loop-byte l = record {
  text : l.out.items ≡ l.fn.out.items ++ 36 ∷ escaped (take l.byte-index l.bytes);
  total : l.total ≡ sum (escaped (take l.byte-index l.bytes)) % 2 ^ 8;
}
