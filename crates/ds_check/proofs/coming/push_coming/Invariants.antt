use Rattle.std.proofs.Common.{◌≡◌, ◌≤◌, ◌++◌, drop, length}
use Rattle.std.specs.Prelude.{None}
use Rattle.ds_check.specs.Coming.{events_from}
use Rattle.ds_check.proofs.coming.push_coming.Given as goal

-- what is written, and what the characters, ends and commands that are left will add, is what is to be written
abbrev pub invariant-loop-character : goal.invariant-loop-character
invariant-loop-character l = record {
  text : l.sheet.items ++ events_from l.pages l.last (drop l.done l.due) l.events.characters ≡ l.fn.sheet.items ++ events_from l.pages None l.due l.fn.events.characters;
  within : l.done ≤ length l.due;
}

abbrev pub decreases-loop-character : goal.decreases-loop-character
decreases-loop-character l = length l.events.characters
