use Rattle.std.proofs.Common.{◌≡◌, map, take}
use Rattle.ds_check.specs.declared.due.Due.TheVariants.{Command}
use Rattle.ds_check.proofs.due.commands_of.Given as goal

abbrev pub invariant-loop-command : goal.invariant-loop-command
invariant-loop-command l = l.due.items ≡ map (λ k. Command k) (take l.command-index l.commands)
