use Rattle.std.proofs.Common.{◌≡◌, List, ℕ, Bor, decimal, drop, option_map}
use Rattle.ds_trace.specs.Logs.{last_of, last_or}
use Rattle.ds_trace.proofs.Scanning.{seen}
use Rattle.ds_trace.proofs.logs.last_of.Given as goal

-- the last of those so far, or of those that are left, is the last of all
abbrev pub invariant-loop-line : goal.invariant-loop-line
invariant-loop-line l = last_or (option_map (λ (x : Bor (List ℕ)). x.now) l.found) (decimal l.process) (seen (drop l.line-index l.lines)) ≡ last_of l.process (seen l.lines)
