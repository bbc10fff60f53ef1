use Rattle.std.proofs.Common.{◌≡◌, ◌++◌, drop, false}
use Rattle.ds_text.specs.Sent.{IsAskedOnce}
use Rattle.ds_drive.specs.Told.{told_lines}
use Rattle.ds_drive.specs.Inner.Told.{passed_in}
use Rattle.ds_drive.proofs.Tellings.{SentOf}
use Rattle.ds_drive.proofs.faults.tell_lines.Given as goal

abbrev pub invariant-loop-fault : goal.invariant-loop-fault
invariant-loop-fault g l = record {
  same : l.lines ≡ l.wording.text.now;
  told : SentOf (g.E.Output.contents l.fn.err) (g.E.Output.contents l.err)
      (l.sheet.items ++ told_lines l.wording.front.now l.wording.place.now l.wording.text.now (passed_in l.reasons) (drop l.fault-index l.faults))
      (told_lines l.wording.front.now l.wording.place.now l.wording.text.now (passed_in l.fn.reasons) l.faults);
  asked : IsAskedOnce (g.E.Output.answers l.fn.err) (g.E.Output.answers l.err) false;
}
