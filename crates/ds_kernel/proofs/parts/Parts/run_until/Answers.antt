use Rattle.std.proofs.Common.{◌∙◌, refl, sym, arith, inl, inr}
use Rattle.ds_refinement.proofs.BlockPaths.{no_clear_path}
use Rattle.ds_refinement.proofs.ClearPaths.{clear_join}
use Rattle.ds_kernel.specs.Inner.Parts.{held}
use Rattle.ds_kernel.proofs.Running.{no_run, failed_again, none_begun}
use Rattle.ds_kernel.proofs.parts.Parts.run_until.Goals as goal

pub returns-then-self-clause-cut : goal.returns-then-self-clause-cut
returns-then-self-clause-cut g c = failed_again c.args.n (held c.args.self.now) c.if-self.true

pub loop-self-init : goal.loop-self-init
loop-self-init g c =
    let old = c.args.self.now in record {
      ran = no_run c.args.n (held old);
      clear = no_clear_path c.args.stops.now (held old);
      met = inl refl;
      good = c.requires.good;
      working = c.if-self.false;
      begun = λ before some. elim before [
        | inl none ↦ absurd (omega (arith, none, some))
        | inr early ↦ early
      ];
    }

pub returns-then-is_at_stop-clause-ran : goal.returns-then-is_at_stop-clause-ran
returns-then-is_at_stop-clause-ran g c = c.in_ok-run_block_until_or_step.ensures.goes.runs (held c.args.self.now) c.loop-self.invariant.ran

pub returns-then-is_at_stop-clause-clear : goal.returns-then-is_at_stop-clause-clear
returns-then-is_at_stop-clause-clear g c =
    clear_join c.args.stops.now (held c.args.self.now) (held c.loop-self.self) (held c.run_block_until_or_step.new.self) c.loop-self.invariant.clear c.loop-self.invariant.met c.in_ok-run_block_until_or_step.ensures.clear

pub returns-then-is_at_stop-clause-ends : goal.returns-then-is_at_stop-clause-ends
returns-then-is_at_stop-clause-ends g c = inr (c.is_at_stop.ensures.stop c.if-is_at_stop.true)

pub returns-then-is_at_stop-clause-unit : goal.returns-then-is_at_stop-clause-unit
returns-then-is_at_stop-clause-unit g c = λ before. (c.is_at_stop.ensures.stop c.if-is_at_stop.true).rests

pub loop-self-preserved : goal.loop-self-preserved
loop-self-preserved g c =
    let goes = c.in_ok-run_block_until_or_step.ensures.goes in record {
      ran = goes.runs (held c.args.self.now) c.loop-self.invariant.ran;
      clear = clear_join c.args.stops.now (held c.args.self.now) (held c.loop-self.self) (held c.run_block_until_or_step.new.self) c.loop-self.invariant.clear c.loop-self.invariant.met c.in_ok-run_block_until_or_step.ensures.clear;
      met = inr (c.is_at_stop.ensures.clear c.if-is_at_stop.false);
      good = c.run_block_until_or_step.ensures.good;
      working = goes.working ∙ c.loop-self.invariant.working;
      begun = λ before some. goes.begun some;
    }

pub returns-clause-unit : goal.returns-clause-unit
returns-clause-unit g c = λ before.
    let last = c.loop-self.self in
    let good = c.loop-self.invariant.good in
    none_begun c.args.n (held last) good.sound good.orderly (sym c.goes_on.ensures ∙ c.loop-self-test.false) (c.loop-self.invariant.begun before)
