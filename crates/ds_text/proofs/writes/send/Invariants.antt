use Rattle.std.proofs.Common.{◌-◌, ◌≤◌, length, take, false}
use Rattle.ds_text.specs.Sent.{IsAskedOnce}
use Rattle.std.specs.Io.KnownBytes.{Appends}
use Rattle.ds_text.proofs.writes.send.Given as goal

abbrev pub invariant-loop-sent : goal.invariant-loop-sent
invariant-loop-sent g l = record {
  within : l.sent ≤ length l.text;
  written : Appends (g.O.Output.contents l.fn.out) (g.O.Output.contents l.out) (take l.sent l.text);
  asked : IsAskedOnce (g.O.Output.answers l.fn.out) (g.O.Output.answers l.out) false;
}

abbrev pub decreases-loop-sent : goal.decreases-loop-sent
decreases-loop-sent g l = length l.text - l.sent
