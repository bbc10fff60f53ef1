use Rattle.std.proofs.Common.{◌≡◌, ◌++◌, take}
use Rattle.ds_packets.specs.Framing.{hex_text}
use Rattle.ds_packets.proofs.frame.push_hex.Given as goal

abbrev pub invariant-loop-byte : goal.invariant-loop-byte
invariant-loop-byte l = l.out.items ≡ l.fn.out.items ++ hex_text (take l.byte-index l.bytes)
