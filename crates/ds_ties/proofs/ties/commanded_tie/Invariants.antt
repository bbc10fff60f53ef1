use Rattle.std.proofs.Common.{◌≡◌, drop}
use Rattle.ds_ties.specs.Ties.{commanded_tie}
use Rattle.ds_ties.proofs.ties.commanded_tie.Given as goal

abbrev pub invariant-loop-command : goal.invariant-loop-command
invariant-loop-command l = commanded_tie l.table l.process (drop l.command-index l.commands) ≡ commanded_tie l.table l.process l.commands
