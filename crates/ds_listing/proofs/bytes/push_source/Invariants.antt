use Rattle.std.proofs.Common.{◌≡◌, ◌++◌, length}
use Rattle.std.specs.String.{string_bytes}
use Rattle.ds_listing.specs.Inner.Laws.{AreSaid}
use Rattle.ds_listing.specs.NamedTexts.{bytes_as}
use Rattle.ds_listing.proofs.bytes.push_source.Given as goal

-- the text of what is left goes on with the text so far; and where that is said, all is
abbrev pub invariant-loop-left : goal.invariant-loop-left
invariant-loop-left l = record {
  text : string_bytes l.text ++ bytes_as l.names l.left ≡ string_bytes l.fn.text ++ bytes_as l.names l.bytes;
  said : AreSaid l.left → AreSaid l.bytes;
}

abbrev pub decreases-loop-left : goal.decreases-loop-left
decreases-loop-left l = length l.left
