use Rattle.std.proofs.Common.{◌≡◌, ◌+◌, ◌<◌, ◌++◌, length}
use Rattle.std.specs.String.{string_bytes}
use Rattle.ds_bare.specs.Looks.{exceptions_text}
use Rattle.ds_bare.proofs.looks.push_exceptions.Given as goal

-- what is written, and what the counts that are left will add, is what all say
abbrev pub invariant-loop-left : goal.invariant-loop-left
invariant-loop-left l = record {
  text : string_bytes l.text ++ exceptions_text l.code l.left ≡ string_bytes l.fn.text ++ exceptions_text 0 l.counts;
  few : l.code + length l.left < 64;
}

abbrev pub decreases-loop-left : goal.decreases-loop-left
decreases-loop-left l = length l.left
