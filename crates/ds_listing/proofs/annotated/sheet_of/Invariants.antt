use Rattle.std.proofs.Common.{◌≡◌, ◌+◌, ◌≤◌, ◌++◌, length}
use Rattle.std.specs.List.{flat_map}
use Rattle.ds_asm.specs.Assembly.{lines_of}
use Rattle.ds_listing.specs.Listing.{row_text, label_line_text, rows_from, rows_of}
use Rattle.ds_listing.proofs.annotated.sheet_of.Given as goal

-- what is written, and what the lines that are left will add, is what all lines say
abbrev pub invariant-loop-rest : goal.invariant-loop-rest
invariant-loop-rest l = record {
  lines : l.lines.items ++ flat_map row_text (rows_from (l.number + 1) l.place l.left (lines_of l.rest)) ≡ flat_map row_text (rows_of l.text l.image);
  labels : l.labels.items ++ flat_map (λ r. label_line_text r.place r.label) (rows_from (l.number + 1) l.place l.left (lines_of l.rest)) ≡ flat_map (λ r. label_line_text r.place r.label) (rows_of l.text l.image);
  place : l.place + length l.left ≡ length l.image;
  within : l.number + length l.rest ≤ length l.text;
}

abbrev pub decreases-loop-rest : goal.decreases-loop-rest
decreases-loop-rest l = length l.rest
