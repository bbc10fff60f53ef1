use Rattle.std.proofs.Common.{◌≡◌, ◌-◌, false}
use Rattle.ds_text.specs.Sent.{IsAskedOnce}
use Rattle.ds_bare.specs.Runs.{ending_from, run_from}
use Rattle.ds_bare.specs.Inner.Runs.{IsUnderWay}
use Rattle.ds_bare.proofs.CutBetween.{HasTold}
use Rattle.ds_bare.proofs.run.run.Given as goal

-- what is written, and what the instructions that are left will tell, is what all tell
abbrev pub invariant-loop-done : goal.invariant-loop-done
invariant-loop-done g l = record {
  text : IsUnderWay (g.O.Output.contents l.fn.out) (g.O.Output.contents l.out) (run_from l.view (l.most - l.done) l.done l.machine) (run_from l.view l.most 0 l.fn.machine);
  ending : ending_from (l.most - l.done) l.done l.machine ≡ ending_from l.most 0 l.fn.machine;
  told : HasTold (g.O.Output.contents l.fn.out) (g.O.Output.contents l.out) l.view l.most l.done l.fn.machine l.machine;
  asked : IsAskedOnce (g.O.Output.answers l.fn.out) (g.O.Output.answers l.out) false;
}
