use Rattle.std.proofs.Common.{sym, ap, ◌∙◌, arith}
use Rattle.std.specs.Prelude.{is_some}
use Rattle.ds_kernel.specs.Inner.Parts.{held}
use Rattle.ds_kernel.proofs.Running.{ready_goes}
use Rattle.ds_kernel.proofs.parts.Parts.goes_on.Goals as goal

pub returns-then-is_some-2 : goal.returns-then-is_some-2
returns-then-is_some-2 g c =
    c.if-is_some-2.true
    ∙ sym (ready_goes c.args.n (held c.args.self.now) c.requires.good.sound (ap is_some (sym c.first_ready.ensures) ∙ (sym c.is_some-2.ensures ∙ c.if-is_some-2.true)) (omega (arith, c.if-self-n.false)))
