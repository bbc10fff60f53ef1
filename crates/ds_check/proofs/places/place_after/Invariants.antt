use Rattle.std.proofs.Common.{◌≡◌, ◌+◌, ◌≤◌, take}
use Rattle.std.specs.List.{fold}
use Rattle.ds_check.specs.Places.{next_place}
use Rattle.ds_check.proofs.places.place_after.Given as goal

abbrev pub invariant-loop-byte : goal.invariant-loop-byte
invariant-loop-byte l = record {
  place : l.place ≡ fold next_place (record { line = 1; column = 1 }) (take l.byte-index l.before);
  line : l.place.line ≤ l.byte-index + 1;
  column : l.place.column ≤ l.byte-index + 1;
}
