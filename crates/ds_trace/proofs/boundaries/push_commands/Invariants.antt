use Rattle.std.proofs.Common.{◌≡◌, ◌++◌, drop}
use Rattle.std.specs.String.{string_bytes}
use Rattle.ds_trace.specs.Boundaries.{commands_text}
use Rattle.ds_trace.proofs.boundaries.push_commands.Given as goal

-- what is written, and what the commands that are left will add, is what all say
abbrev pub invariant-loop-command : goal.invariant-loop-command
invariant-loop-command l = string_bytes l.line ++ commands_text l.time (drop l.command-index l.commands) ≡ string_bytes l.fn.line ++ commands_text l.time l.commands
