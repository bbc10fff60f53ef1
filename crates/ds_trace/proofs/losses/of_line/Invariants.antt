use Rattle.std.proofs.Common.{◌≡◌, ◌≤◌, ◌+◌, drop}
use Rattle.ds_trace.specs.Losses.{of_line}
use Rattle.ds_trace.proofs.losses.of_line.Given as goal

-- what is counted, and what will be, is the whole count
abbrev pub invariant-loop-character : goal.invariant-loop-character
invariant-loop-character l = record {
  whole : l.count + of_line l.line (drop l.character-index l.characters) ≡ of_line l.line l.characters;
  few : l.count ≤ l.character-index;
}
