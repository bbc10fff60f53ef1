use Rattle.std.proofs.Common.{◌≡◌, ◌++◌, drop}
use Rattle.std.specs.String.{string_bytes}
use Rattle.ds_trace.specs.Summaries.{calls_text}
use Rattle.ds_trace.proofs.summaries.push_calls.Given as goal

-- what is written, and what the calls that are left will add, is what all say
abbrev pub invariant-loop-number : goal.invariant-loop-number
invariant-loop-number l = string_bytes l.line ++ calls_text l.number (drop l.number l.calls) ≡ string_bytes l.fn.line ++ calls_text 0 l.calls
