use Rattle.std.proofs.Common.{◌≡◌, ◌∙◌, ◌*◌, ◌+◌, nat_le, true, false, sym, arith, refl}
use Rattle.std.proofs.lemmas.Bool.Decides.{nat_tests}
use Rattle.ds_word.proofs.DigitSteps.{digits_step, digits_end}
use Rattle.ds_word.proofs.digits.number_of_digits.Goals as goal

pub returns-in-None-clause-value : goal.returns-in-None-clause-value
returns-in-None-clause-value c =
    let step = digits_step c.args.base c.args.limit c.loop-c.n c.args.digits.now c.loop-c.c-index (omega arith) in
    sym (sym c.loop-c.invariant.same ∙ step ∙ rw (← c.digit_of.ensures.exact, c.in-None.is) refl)

pub returns-then-next-limit-clause-value : goal.returns-then-next-limit-clause-value
returns-then-next-limit-clause-value c =
    let step = digits_step c.args.base c.args.limit c.loop-c.n c.args.digits.now c.loop-c.c-index (omega arith) in
    let past : nat_le (c.loop-c.n * c.args.base + c.in-Some.digit) c.args.limit ≡ false = grind (arith, nat_tests) in
    sym (sym c.loop-c.invariant.same ∙ step ∙ rw (← c.digit_of.ensures.exact, c.in-Some.is, past) refl)

pub loop-c-preserved : goal.loop-c-preserved
loop-c-preserved c =
    let step = digits_step c.args.base c.args.limit c.loop-c.n c.args.digits.now c.loop-c.c-index (omega arith) in
    let within : nat_le (c.loop-c.n * c.args.base + c.in-Some.digit) c.args.limit ≡ true = grind (arith, nat_tests) in
    record {
      same = sym (sym c.loop-c.invariant.same ∙ step ∙ rw (← c.digit_of.ensures.exact, c.in-Some.is, within) refl);
      bounded = omega arith;
    }

pub returns-clause-value : goal.returns-clause-value
returns-clause-value c = sym (sym c.loop-c.invariant.same ∙ digits_end c.args.base c.args.limit c.loop-c.n c.args.digits.now c.loop-c.c-index (omega arith))
