use Rattle.std.proofs.Common.{◌∙◌, sym, rules}
use Rattle.ds_asm.proofs.SourceLines.{lines_of-first}
use Rattle.ds_policy_reasons.proofs.FirstSaid.{said_first, silent_first, none_said}
use Rattle.ds_policy_reasons.proofs.kinds.first_said.Goals as goal

pub returns-else-is_silent : goal.returns-else-is_silent
returns-else-is_silent c =
    said_first c.loop-rest.rest.now c.first_line.result.0.now c.first_line.result.1.now _
    (lines_of-first c.loop-rest.rest.now c.first_line.result.0.now c.first_line.result.1.now (sym c.loop-rest-test.ensures) c.first_line.ensures.line c.first_line.ensures.after)
    (sym c.is_silent.ensures ∙ c.if-is_silent.false) c.loop-rest.invariant

pub loop-rest-preserved : goal.loop-rest-preserved
loop-rest-preserved c =
    silent_first c.loop-rest.rest.now c.first_line.result.0.now c.first_line.result.1.now _
    (lines_of-first c.loop-rest.rest.now c.first_line.result.0.now c.first_line.result.1.now (sym c.loop-rest-test.ensures) c.first_line.ensures.line c.first_line.ensures.after)
    (sym c.is_silent.ensures ∙ c.if-is_silent.true) c.loop-rest.invariant

pub returns : goal.returns
returns c = none_said c.loop-rest.rest.now _ (search rules) c.loop-rest.invariant
