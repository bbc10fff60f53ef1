use Rattle.std.proofs.Common.{◌≡◌, ◌+◌, ◌≤◌, ◌++◌, length, map, option_map}
use Rattle.ds_asm.specs.Assembly.{lines_of}
use Rattle.ds_listing.specs.Listing.{rows_from, rows_of}
use Rattle.ds_listing.specs.Places.{places_from, line_places_of, plain_label, plain_line_place}
use Rattle.ds_listing.proofs.places.places_between.Given as goal

-- the lines so far, and those that are left, are all
abbrev pub invariant-loop-label : goal.invariant-loop-label
invariant-loop-label l = record {
  places : map plain_line_place l.places.items ++ places_from (option_map plain_label l.label) (rows_from (l.number + 1) l.place l.left (lines_of l.rest)) ≡ line_places_of (rows_of l.text l.image);
  place : l.place + length l.left ≡ length l.image;
  within : l.number + length l.rest ≤ length l.text;
}

abbrev pub decreases-loop-label : goal.decreases-loop-label
decreases-loop-label l = length l.rest
