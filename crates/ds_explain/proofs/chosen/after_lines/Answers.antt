use Rattle.std.proofs.Common.{◌∙◌, sym, arith}
use Rattle.ds_asm.proofs.SourceLines.{lines_of-first}
use Rattle.ds_check.proofs.LineSteps.{one_less}
use Rattle.ds_explain.proofs.chosen.after_lines.Goals as goal

pub loop-left-preserved : goal.loop-left-preserved
loop-left-preserved c =
    one_less c.loop-left.left c.loop-left.rest.now c.first_line.result.0.now c.first_line.result.1.now
    (lines_of-first c.loop-left.rest.now c.first_line.result.0.now c.first_line.result.1.now (sym c.if-not-is_empty.ensures) c.first_line.ensures.line c.first_line.ensures.after)
    (omega (arith, c.loop-left-test.true))
    ∙ c.loop-left.invariant
