-- Worked ends among commands.
use Rattle.std.specs.Prelude.{refl, ◌≡◌, ℕ, false, [], ◌∷◌, Option, Some, None}
use Rattle.ds_policy.specs.declared.command.Command.TheVariants.{Stop}
use Rattle.ds_policy.specs.declared.command.TimedCommand.{TimedCommand}
use Rattle.ds_policy.specs.declared.grant.Right.TheVariants.{Read}
use Rattle.ds_policy.specs.declared.policy.PolicyRule.{PolicyRule}
use Rattle.ds_check.specs.declared.due.Due.{Due}
use Rattle.ds_check.specs.declared.due.Due.TheVariants.{End, Command}
use Rattle.ds_check.specs.Due.{due_of}

-- a rule of process 1 at an address, with page 0
abbrev rule : ℕ → Option ℕ → PolicyRule
rule address until = record { process = 1; address = address; right = Read; page = Some 0; give = false; until = until }

abbrev stop : ℕ → ℕ → TimedCommand
stop time number = record { time = time; number = number; command = Stop 2 }

-- the end of the rule of a number
abbrev end : ℕ → ℕ → ℕ → Due
end time number address = End (record { time = time; rule = number; process = 1; address = address; page = Some 0 })

-- by their times; at one time ends first, in the order of their rules
pub ends_come_before_commands :
    due_of (rule 0x1000 (Some 7) ∷ rule 0x2000 None ∷ rule 0x3000 (Some 5) ∷ rule 0x4000 (Some 7) ∷ rule 0x5000 (Some 9) ∷ []) (stop 5 1 ∷ stop 6 2 ∷ stop 7 3 ∷ stop 7 4 ∷ [])
    ≡ end 5 3 0x3000 ∷ Command (stop 5 1) ∷ Command (stop 6 2) ∷ end 7 1 0x1000 ∷ end 7 4 0x4000 ∷ Command (stop 7 3) ∷ Command (stop 7 4) ∷ end 9 5 0x5000 ∷ []
ends_come_before_commands = refl

pub rules_without_ends_add_none : due_of (rule 0x1000 None ∷ []) (stop 5 1 ∷ []) ≡ Command (stop 5 1) ∷ []
rules_without_ends_add_none = refl
