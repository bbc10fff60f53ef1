use Rattle.std.proofs.Common.{◌≡◌, drop, map}
use Rattle.ds_listing.specs.Places.{line_of_byte, plain_line_place}
use Rattle.ds_listing.proofs.places.line_of_byte.Given as goal

-- no line before ends past the byte
abbrev pub invariant-loop-line : goal.invariant-loop-line
invariant-loop-line l = line_of_byte l.byte (map plain_line_place (drop l.line-index l.lines)) ≡ line_of_byte l.byte (map plain_line_place l.lines)
