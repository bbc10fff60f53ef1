use Rattle.ds_kernel.proofs.IdleTurns.{turns_go, none_of_nobody}
use Rattle.ds_kernel.proofs.idle.turns_of_nobody_are_one_step.Goals as goal

pub returns : goal.returns
returns c = λ k n h sound spent may. turns_go k n h sound (none_of_nobody h sound may.ready) may
