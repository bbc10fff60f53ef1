use Rattle.std.proofs.Common.{◌≡◌, ◌+◌, ◌≤◌, ◌++◌, length}
use Rattle.std.specs.String.{string_bytes}
use Rattle.ds_bare.specs.Ends.{slots_text}
use Rattle.ds_bare.proofs.matches.push_entries.Given as goal

-- what is written, and what the slots that are left will add, is what all say
abbrev pub invariant-loop-left : goal.invariant-loop-left
invariant-loop-left l = record {
  text : string_bytes l.text ++ slots_text l.slot l.left ≡ string_bytes l.fn.text ++ slots_text 0 l.entries;
  few : l.slot + length l.left ≤ 64;
}

abbrev pub decreases-loop-left : goal.decreases-loop-left
decreases-loop-left l = length l.left
