use Rattle.std.proofs.Common.{◌≡◌, ◌++◌, drop}
use Rattle.ds_check.specs.PolicyNotes.{pages_notes}
use Rattle.ds_check.proofs.notes.policy.push_pages.Given as goal

-- what was noted, and the notes on the pages that are left, are the notes on all
abbrev pub invariant-loop-index : goal.invariant-loop-index
invariant-loop-index l = l.notes.items ++ pages_notes l.policy l.images l.index (drop l.index l.policy.pages) ≡ l.fn.notes.items ++ pages_notes l.policy l.images 0 l.policy.pages
