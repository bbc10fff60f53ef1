use Rattle.std.proofs.Common.{◌≡◌, ◌≤◌, ◌-◌, ◌++◌, length}
use Rattle.ds_check.specs.InputNotes.{crowds, crowds_after}
use Rattle.ds_check.proofs.notes.input.push_crowds.Given as goal

-- what was found, and what the characters that are left add behind those of their time, are all crowds
abbrev pub invariant-loop-character : goal.invariant-loop-character
invariant-loop-character l = record {
  found : l.found.items ++ crowds_after (l.left - length l.events.characters) l.events.characters ≡ l.fn.found.items ++ crowds l.fn.events.characters;
  within : length l.events.characters ≤ l.left;
}

abbrev pub decreases-loop-character : goal.decreases-loop-character
decreases-loop-character l = length l.events.characters
