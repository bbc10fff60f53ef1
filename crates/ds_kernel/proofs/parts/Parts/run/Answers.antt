use Rattle.std.proofs.Common.{◌∙◌, refl, sym, arith, inl, inr}
use Rattle.ds_kernel.specs.Inner.Parts.{held}
use Rattle.ds_kernel.proofs.Running.{no_run, failed_again, none_begun, still_goes}
use Rattle.ds_kernel.proofs.parts.Parts.run.Goals as goal

pub returns-then-self-clause-cut : goal.returns-then-self-clause-cut
returns-then-self-clause-cut g c = failed_again c.args.n (held c.args.self.now) c.if-self.true

pub loop-self-init : goal.loop-self-init
loop-self-init g c =
    let old = c.args.self.now in record {
      ran = no_run c.args.n (held old);
      good = c.requires.good;
      working = c.if-self.false;
      rest = λ over. refl;
      begun = λ before some. elim before [
        | inl none ↦ absurd (omega (arith, none, some))
        | inr early ↦ early
      ];
    }

pub loop-self-preserved : goal.loop-self-preserved
loop-self-preserved g c =
    let goes = c.in_ok-run_blocks_or_step.ensures.goes in record {
      ran = goes.runs (held c.args.self.now) c.loop-self.invariant.ran;
      good = c.run_blocks_or_step.ensures.good;
      working = goes.working ∙ c.loop-self.invariant.working;
      rest = λ over. absurd (still_goes c.args.n c.args.self.now c.loop-self.self (c.loop-self.invariant.rest over) (sym c.goes_on.ensures ∙ c.loop-self-test.true) over);
      begun = λ before some. goes.begun some;
    }

pub returns-clause-unit : goal.returns-clause-unit
returns-clause-unit g c = λ before.
    let last = c.loop-self.self in
    let good = c.loop-self.invariant.good in
    none_begun c.args.n (held last) good.sound good.orderly (sym c.goes_on.ensures ∙ c.loop-self-test.false) (c.loop-self.invariant.begun before)

pub returns-clause-rest : goal.returns-clause-rest
returns-clause-rest g c = λ working over. (refl, c.loop-self.invariant.rest over)
