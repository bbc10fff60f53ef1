use Rattle.std.proofs.Common.{arith, false, rules}
use Rattle.ds_text.proofs.Sends.{asked_both, at_err}
use Rattle.ds_bare.proofs.CutBetween.{cut_at_end, cut_before, told_more, when_short}
use Rattle.ds_bare.proofs.UnderWay.{all_cut, end_cut, end_told, ending_goes_on, ending_here, turn_cut, turn_goes_on}
use Rattle.ds_bare.proofs.run.run.Goals as goal

pub returns-in_err-ending-clause-err : goal.returns-in_err-ending-clause-err
returns-in_err-ending-clause-err g c = at_err c.from_residual.result
    (turn_cut _ _ _ c.args.view.now c.args.most c.loop-done.done c.loop-done.machine _ c.loop-done-test.true c.loop-done.invariant.text c.in_err-ending.ensures.err)

pub returns-in_err-end-in-Some-clause-err : goal.returns-in_err-end-in-Some-clause-err
returns-in_err-end-in-Some-clause-err g c = at_err c.from_residual-in_err-end-in-Some.result
    (end_cut _ _ _ _ c.args.view.now c.args.most c.loop-done.done c.loop-done.machine c.turn.new.machine c.in_ok-ending.field-0 c.in-Some.ending _ c.loop-done-test.true c.loop-done.invariant.text c.in_ok-ending.ensures.ok c.in_ok-ending.ensures.ending c.in_ok-ending.ensures.state c.in-Some.is c.in_err-end-in-Some.ensures.err)

pub returns-in-Some-clause-ok : goal.returns-in-Some-clause-ok
returns-in-Some-clause-ok g c =
    end_told _ _ _ _ c.args.view.now c.args.most c.loop-done.done c.loop-done.machine c.turn.new.machine c.in_ok-ending.field-0 c.in-Some.ending _ c.loop-done-test.true c.loop-done.invariant.text c.in_ok-ending.ensures.ok c.in_ok-ending.ensures.ending c.in_ok-ending.ensures.state c.in-Some.is c.in_ok-end-in-Some.ensures.ok

pub returns-in-Some-clause-ending : goal.returns-in-Some-clause-ending
returns-in-Some-clause-ending g c =
    ending_here c.args.most c.loop-done.done c.loop-done.machine c.in_ok-ending.field-0 c.in-Some.ending _ c.loop-done-test.true c.loop-done.invariant.ending c.in_ok-ending.ensures.ending c.in-Some.is

pub loop-done-preserved : goal.loop-done-preserved
loop-done-preserved g c = record {
  text = turn_goes_on _ _ _ c.args.view.now c.args.most c.loop-done.done c.loop-done.machine c.turn.new.machine c.in_ok-ending.field-0 _ c.loop-done-test.true c.loop-done.invariant.text c.in_ok-ending.ensures.ok c.in_ok-ending.ensures.ending c.in_ok-ending.ensures.state c.in-None.is;
  ending = ending_goes_on c.args.most c.loop-done.done c.loop-done.machine c.turn.new.machine c.in_ok-ending.field-0 _ c.loop-done-test.true c.loop-done.invariant.ending c.in_ok-ending.ensures.ending c.in_ok-ending.ensures.state c.in-None.is;
  told = told_more _ _ _ c.args.view.now c.args.most c.loop-done.done _ c.loop-done.machine c.turn.new.machine c.in_ok-ending.field-0 c.loop-done-test.true c.loop-done.invariant.told c.in_ok-ending.ensures.ok c.in_ok-ending.ensures.ending c.in_ok-ending.ensures.state c.in-None.is;
  asked = asked_both _ _ _ false c.loop-done.invariant.asked c.in_ok-ending.ensures.once;
}

pub returns-in_err-end-clause-err : goal.returns-in_err-end-clause-err
returns-in_err-end-clause-err g c = at_err c.from_residual-in_err-end.result
    (all_cut _ _ _ c.args.view.now c.args.most c.loop-done.done c.loop-done.machine _ (omega (arith, c.loop-done-test.false, c.loop-done.auto.done-end)) c.loop-done.invariant.text c.in_err-end.ensures.err)

-- What is written where memory runs out.

pub returns-in_err-ending-clause-short : goal.returns-in_err-ending-clause-short
returns-in_err-ending-clause-short g c = when_short c.from_residual.result c.in_err-ending.field-0.0 _ (search rules)
    (λ is. cut_before _ _ _ c.args.view.now c.args.most c.loop-done.done _ c.loop-done.machine (omega (arith, c.loop-done-test.true)) c.loop-done.invariant.told (c.in_err-ending.ensures.short is))

pub returns-in_err-end-in-Some-clause-short : goal.returns-in_err-end-in-Some-clause-short
returns-in_err-end-in-Some-clause-short g c = when_short c.from_residual-in_err-end-in-Some.result c.in_err-end-in-Some.field-0.0 _ (search rules)
    (λ is. cut_at_end _ _ _ _ c.args.view.now c.args.most c.loop-done.done _ c.loop-done.machine c.turn.new.machine c.in_ok-ending.field-0 c.in-Some.ending c.loop-done-test.true c.loop-done.invariant.told c.in_ok-ending.ensures.ok c.in_ok-ending.ensures.ending c.in_ok-ending.ensures.state c.in-Some.is (c.in_err-end-in-Some.ensures.short is))

pub returns-in_err-end-clause-short : goal.returns-in_err-end-clause-short
returns-in_err-end-clause-short g c = when_short c.from_residual-in_err-end.result c.in_err-end.field-0.0 _ (search rules)
    (λ is. cut_before _ _ _ c.args.view.now c.args.most c.loop-done.done _ c.loop-done.machine (omega (arith, c.loop-done-test.false, c.loop-done.auto.done-end)) c.loop-done.invariant.told (c.in_err-end.ensures.short is))
