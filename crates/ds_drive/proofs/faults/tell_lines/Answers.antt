use Rattle.std.proofs.Common.{◌∙◌, refl, arith}
use Rattle.ds_text.proofs.Sends.{asked_both, at_err}
use Rattle.ds_drive.proofs.Tellings.{none_left, one_told, sent_all, sent_part, sheet_sent}
use Rattle.ds_drive.proofs.faults.tell_lines.Goals as goal
use Rattle.ds_drive.proofs.faults.tell_lines.Goals.{then-len-ge-BYTES_AT_ONCE+in_ok-send, else-len-ge-BYTES_AT_ONCE}

pub returns-in_err-send-clause-front : goal.returns-in_err-send-clause-front
returns-in_err-send-clause-front g c = at_err c.from_residual-in_err-send.result
    (sent_part _ _ _ _ _ _ _
    (one_told c.args.wording.front.now c.args.wording.place.now c.args.wording.text.now _ _ c.args.faults.now c.loop-fault.fault-index _ _ _ _ _ _ _ c.loop-fault-test.true refl c.in_ok-push_told.ensures.text c.push_told.ensures.passed c.loop-fault.invariant.told)
    c.deref.ensures.value c.in_err-send.ensures.err)

pub loop-fault-preserved : goal.loop-fault-preserved
loop-fault-preserved g c =
    let told = one_told c.args.wording.front.now c.args.wording.place.now c.args.wording.text.now _ _ c.args.faults.now c.loop-fault.fault-index _ _ _ _ _ _ _ c.loop-fault-test.true refl c.in_ok-push_told.ensures.text c.push_told.ensures.passed c.loop-fault.invariant.told in
    record {
      same = c.push_told.ensures.same ∙ c.loop-fault.invariant.same;
      told = elim c.if-len-ge-BYTES_AT_ONCE.branch [
        | then-len-ge-BYTES_AT_ONCE+in_ok-send w ↦ rw (w.err-is, w.sheet-is) (sheet_sent _ _ _ _ _ _ _ _ told w.deref.ensures.value w.in_ok-send.ensures.ok w.clear.ensures.items)
        | else-len-ge-BYTES_AT_ONCE w ↦ rw (w.err-is, w.sheet-is) told
      ];
      asked = elim c.if-len-ge-BYTES_AT_ONCE.branch [
        | then-len-ge-BYTES_AT_ONCE+in_ok-send w ↦ rw (w.err-is) (asked_both _ _ _ _ c.loop-fault.invariant.asked w.in_ok-send.ensures.once)
        | else-len-ge-BYTES_AT_ONCE w ↦ rw (w.err-is) c.loop-fault.invariant.asked
      ];
    }

pub returns-in_err-send-2-clause-front : goal.returns-in_err-send-2-clause-front
returns-in_err-send-2-clause-front g c = at_err c.from_residual-in_err-send-2.result
    (sent_part _ _ _ _ _ _ _ c.loop-fault.invariant.told c.deref-2.ensures.value c.in_err-send-2.ensures.err)

pub returns-clause-all : goal.returns-clause-all
returns-clause-all g c =
    sent_all _ _ _ _ _ _ _ c.loop-fault.invariant.told c.deref-2.ensures.value
    (none_left c.args.wording.front.now c.args.wording.place.now c.args.wording.text.now _ c.args.faults.now c.loop-fault.fault-index (omega (arith, c.loop-fault-test.false)))
    c.in_ok-send-2.ensures.ok
