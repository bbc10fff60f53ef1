use Rattle.std.proofs.Common.{◌≡◌, ◌++◌, length}
use Rattle.ds_trace.proofs.losses.taken_of.Given as goal

-- those that are taken, and those that are left, are all
abbrev pub invariant-loop-character : goal.invariant-loop-character
invariant-loop-character l = l.characters.items ++ l.events.characters ≡ l.fn.events.characters

abbrev pub decreases-loop-character : goal.decreases-loop-character
decreases-loop-character l = length l.events.characters
