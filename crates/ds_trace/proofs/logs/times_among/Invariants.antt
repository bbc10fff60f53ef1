use Rattle.std.proofs.Common.{◌≡◌, ◌≤◌, ◌+◌, drop}
use Rattle.ds_trace.specs.Logs.{times_among}
use Rattle.ds_trace.proofs.Scanning.{seen}
use Rattle.ds_trace.proofs.logs.times_among.Given as goal

-- what is counted, and what will be, is the whole count
abbrev pub invariant-loop-r : goal.invariant-loop-r
invariant-loop-r l = record {
  whole : l.times + times_among l.rule (seen (drop l.r-index l.rules)) ≡ times_among l.rule (seen l.rules);
  few : l.times ≤ l.r-index;
}
