-- What is true of each input that was read.
use Rattle.std.specs.Prelude.{◌≡◌, ◌<◌, ℕ, ⊤, true, List}
use Rattle.std.specs.List.{All}
use Rattle.ds_policy.specs.Grants.{is_some_right}
use Rattle.ds_policy.specs.declared.command.Command.{Command}
use Rattle.ds_policy.specs.declared.command.Command.TheVariants.{Grant, Narrow, Revoke, Drop, Resume, Stop}
use Rattle.ds_policy.specs.declared.command.TimedCommand.{TimedCommand}
use Rattle.ds_policy.specs.declared.command.Character.{Character}

-- when the command is due
abbrev pub has_time : TimedCommand → ℕ
has_time c = c.time

-- when the character comes
abbrev pub comes_at : Character → ℕ
comes_at c = c.time

-- a grant gives some right over one of so many pages; the other commands name no page
abbrev pub IsGoodCommand : ℕ → Command → Type 0
IsGoodCommand pages (Grant process address page right give) = (page < pages) × (is_some_right right ≡ true)
IsGoodCommand pages (Narrow process address) = ⊤
IsGoodCommand pages (Revoke process address) = ⊤
IsGoodCommand pages (Drop process address) = ⊤
IsGoodCommand pages (Resume process) = ⊤
IsGoodCommand pages (Stop process) = ⊤

-- each command is good for a policy of so many pages
abbrev pub AreGoodCommands : ℕ → List TimedCommand → Type 0
AreGoodCommands pages commands = All (λ (c : TimedCommand). IsGoodCommand pages c.command) commands
