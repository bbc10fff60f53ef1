use Rattle.std.proofs.Common.{◌≡◌, length}
use Rattle.ds_asm.specs.Assembly.{lines_of}
use Rattle.ds_policy_reasons.specs.Kinds.{first_said}
use Rattle.ds_policy_reasons.proofs.kinds.first_said.Given as goal

abbrev pub invariant-loop-rest : goal.invariant-loop-rest
invariant-loop-rest l = first_said (lines_of l.rest) ≡ first_said (lines_of l.text)

abbrev pub decreases-loop-rest : goal.decreases-loop-rest
decreases-loop-rest l = length l.rest
