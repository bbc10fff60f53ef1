use Rattle.std.proofs.Common.{◌≡◌, ◌<◌, ◌++◌, take}
use Rattle.std.specs.List.{All}
use Rattle.std.specs.String.{string_bytes}
use Rattle.ds_listing.specs.Sources.{byte_lines}
use Rattle.ds_listing.proofs.bytes.push_byte_lines.Given as goal

abbrev pub invariant-loop-byte : goal.invariant-loop-byte
invariant-loop-byte l = record {
  text : string_bytes l.text ≡ string_bytes l.fn.text ++ byte_lines (take l.byte-index l.bytes);
  small : All (λ b. b < 256) (take l.byte-index l.bytes);
}
