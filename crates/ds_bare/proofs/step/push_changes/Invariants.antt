use Rattle.std.proofs.Common.{◌≡◌, ◌+◌, ◌≤◌, ◌++◌, length}
use Rattle.std.specs.String.{string_bytes}
use Rattle.ds_bare.specs.Steps.{changes_text}
use Rattle.ds_bare.proofs.step.push_changes.Given as goal

-- what is written, and what the registers that are left will add, is what all say
abbrev pub invariant-loop-olds : goal.invariant-loop-olds
invariant-loop-olds l = record {
  text : string_bytes l.text ++ changes_text l.names l.number l.olds l.news ≡ string_bytes l.fn.text ++ changes_text l.names l.first l.before l.after;
  few : l.number + length l.olds ≤ 64;
}

abbrev pub decreases-loop-olds : goal.decreases-loop-olds
decreases-loop-olds l = length l.olds
