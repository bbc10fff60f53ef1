use Rattle.std.proofs.Common.{◌≡◌, drop}
use Rattle.ds_ties.specs.Ties.{letting_command}
use Rattle.ds_ties.proofs.ties.letting_command.Given as goal

abbrev pub invariant-loop-command : goal.invariant-loop-command
invariant-loop-command l = letting_command (drop l.command-index l.commands) ≡ letting_command l.commands
