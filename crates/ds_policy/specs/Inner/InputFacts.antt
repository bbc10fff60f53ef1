-- What is true of each input that was read.
use Rattle.std.specs.Prelude.{◌≡◌, ◌≤◌, ◌<◌, ◌+◌, ℕ, List, length, slice_index_or}
use Rattle.std.specs.List.{All}
use Rattle.std.specs.List.Sorted.{IsNonDecreasingBy}
use Rattle.ds_policy.specs.declared.command.TimedCommand.{TimedCommand}
use Rattle.ds_policy.specs.declared.command.Character.{Character}
use Rattle.ds_policy.specs.Value.{InputValue}
use Rattle.ds_policy.specs.InputFacts.{has_time, comes_at}

-- a character comes in on one of four lines
pub record IsGoodCharacter (c : Character) : Type 0 where
  pub time : c.time ≤ 1000000000
  pub line : c.line ≤ 3

-- commands are numbered from 1
abbrev pub AreNumbered : List TimedCommand → Type 0
AreNumbered commands = (k : ℕ) (d : TimedCommand) → k < length commands → (slice_index_or commands k d).number ≡ k + 1

-- in bounds and in order
pub record IsGoodInput (i : InputValue) : Type 0 where
  pub count : length i.commands ≤ 4096
  pub due : All (λ c. has_time c ≤ 1000000000) i.commands
  pub numbers : AreNumbered i.commands
  pub order : IsNonDecreasingBy has_time i.commands
  pub characters : All IsGoodCharacter i.characters
  pub character_order : IsNonDecreasingBy comes_at i.characters
