use Rattle.std.proofs.Common.{◌≡◌, true, false, ℕ, sym, subst, arith, ◌==◌}
use Rattle.std.proofs.lemmas.Bool.{ne_eqb}
use Rattle.ds_bare.specs.Endings.{are_zero}
use Rattle.ds_bare.proofs.Zeros.{zero_lost}
use Rattle.ds_bare.proofs.ending.are_zero.Goals as goal

pub returns-then-word-ne0 : goal.returns-then-word-ne0
returns-then-word-ne0 c = sym (zero_lost c.args.bus.now.memory c.args.place c.loop-word.word 32 c.loop-word-test.true (subst (λ (w : ℕ). (w == 0) ≡ false) c.word.ensures (ne_eqb c.word.result 0 c.if-word-ne0.true)))

pub returns : goal.returns
returns c = sym (subst (λ (n : ℕ). are_zero c.args.bus.now.memory c.args.place n ≡ true) (omega (arith, c.loop-word-test.false, c.loop-word.auto.word-end)) c.loop-word.invariant)
