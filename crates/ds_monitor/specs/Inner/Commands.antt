-- What is done of an operator's commands.
use Rattle.std.specs.Prelude.{◌≡◌, ℕ, ◌+◌, ◌++◌, not, nat_le, filter, List, Result, Ok, Err}
use Rattle.ds_policy.specs.declared.command.Command.{Command}
use Rattle.ds_policy.specs.declared.command.TimedCommand.{TimedCommand}
use Rattle.ds_policy.specs.Ends.{expired}
use Rattle.ds_policy.specs.InputFacts.{has_time}
use Rattle.ds_log.specs.declared.line.Line.{Line}
use Rattle.ds_log.specs.declared.line.Line.TheVariants.{Refused}
use Rattle.ds_log.specs.Text.{line_text}
use Rattle.ds_grants.specs.declared.fault.GrantFault.{GrantFault}
use Rattle.ds_grants.specs.Inner.State.{grant_fault_number}
use Rattle.ds_pagemap.specs.Machine.{State}
use Rattle.ds_pagemap.specs.Calls.{refuse_command, after_command}
use Rattle.ds_pagemap.specs.Boundary.{after_commands}
use Rattle.ds_pagemap_laws.specs.Due.{due_count}
use Rattle.ds_refinement.specs.Held.{Kept}
use Rattle.ds_refinement.specs.Inner.Held.{whole}
use Rattle.ds_refinement.specs.Inner.Services.{Serves}

-- the rights that have ended by a time end
abbrev pub with_ends : ℕ → State → State
with_ends now m = record m { memory = expired m.memory now }

-- the commands that are due at a time are done, in their order, and the others are still to come
abbrev pub commanded : ℕ → State → State
commanded now m =
    after_commands (record m { commands = filter (λ (c : TimedCommand). not (nat_le c.time now)) m.commands })
    (filter (λ (c : TimedCommand). nat_le c.time now) m.commands)

-- how many commands are due at a time
abbrev pub commands_by : ℕ → List TimedCommand → ℕ
commands_by now cs = due_count has_time now cs

-- a command's refusal is told in the log
abbrev pub with_refusal : ℕ → GrantFault → Kept → Kept
with_refusal n fault k = record k {
  log = k.log ++ line_text (Refused k.state.time n (grant_fault_number fault));
  lines = k.lines + 1;
}

-- the command is done, or nothing is, and it is to be refused by this number
abbrev pub Obeys : {R : Type 0} → ℕ → Command → Kept → List ℕ → Kept → List ℕ → Result R GrantFault → Type 0
Obeys n c old before new after (Ok done) = Serves (λ (m : State). after_command m n c) old before new after
Obeys n c old before new after (Err fault) =
    (new ≡ old) × (after ≡ before)
    × ((log : List Line) → after_command (whole old before log) n c ≡ refuse_command (whole old before log) n (grant_fault_number fault))
