use Rattle.std.proofs.Common.{◌≡◌, ◌+◌, ◌≤◌, ◌++◌, None, length}
use Rattle.ds_asm.specs.Assembly.{lines_of}
use Rattle.ds_listing.specs.Listing.{rows_from, rows_of}
use Rattle.ds_check.specs.CodeNotes.{notes_after}
use Rattle.ds_check.proofs.notes.code.push_notes.Given as goal

-- what was noted, and the notes on the lines that are left, are the notes on all lines
abbrev pub invariant-loop-rest : goal.invariant-loop-rest
invariant-loop-rest l = record {
  notes : l.notes.items ++ notes_after l.before (rows_from (l.line_count + 1) l.offset l.left (lines_of l.rest)) ≡ l.fn.notes.items ++ notes_after None (rows_of l.text l.image);
  offset : l.offset + length l.left ≡ length l.image;
  within : l.line_count + length l.rest ≤ length l.text;
}

abbrev pub decreases-loop-rest : goal.decreases-loop-rest
decreases-loop-rest l = length l.rest
