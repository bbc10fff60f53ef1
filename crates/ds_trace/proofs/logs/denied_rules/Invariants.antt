use Rattle.std.proofs.Common.{◌≡◌, ◌++◌, drop}
use Rattle.ds_trace.specs.Logs.{denied_rules}
use Rattle.ds_trace.proofs.Scanning.{seen}
use Rattle.ds_trace.proofs.logs.denied_rules.Given as goal

-- the rules so far, and those of the lines that are left, are those of all
abbrev pub invariant-loop-line : goal.invariant-loop-line
invariant-loop-line l = seen l.rules.items ++ denied_rules (seen (drop l.line-index l.lines)) ≡ denied_rules (seen l.lines)
