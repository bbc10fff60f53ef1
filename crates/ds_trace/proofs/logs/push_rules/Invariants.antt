use Rattle.std.proofs.Common.{◌≡◌, ◌++◌, [], drop, take}
use Rattle.ds_trace.specs.Logs.{rules_text}
use Rattle.ds_trace.proofs.Scanning.{seen}
use Rattle.ds_trace.proofs.logs.push_rules.Given as goal

-- what is written, and what the rules that are left will add, is what all say
abbrev pub invariant-loop-index : goal.invariant-loop-index
invariant-loop-index l = l.text.items ++ rules_text (seen (take l.index l.rules)) (seen (drop l.index l.rules)) ≡ l.fn.text.items ++ rules_text [] (seen l.rules)
