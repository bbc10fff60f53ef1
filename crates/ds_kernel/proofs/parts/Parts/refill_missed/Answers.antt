use Rattle.std.proofs.Common.{sym, ◌∙◌}
use Rattle.ds_kernel.proofs.Refilling.{refilled_goes}
use Rattle.ds_kernel.proofs.parts.Parts.refill_missed.Goals as goal

pub returns-then-is_some-clause-goes : goal.returns-then-is_some-clause-goes
returns-then-is_some-clause-goes g c = λ n start before begun.
    refilled_goes n start c.args.self.now c.refill.new.self c.refill.result c.requires.good (sym c.has_missed.ensures ∙ c.if-has_missed.true) c.refill.ensures.nearer c.refill.ensures.still before begun
