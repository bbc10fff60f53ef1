use Rattle.ds_source_reasons.proofs.operand.+operand_after.Given as goal

abbrev pub decreases-operand_after : goal.decreases-operand_after
decreases-operand_after l = l.count
