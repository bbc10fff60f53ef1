-- The characters of an input.
use Rattle.std.specs.Prelude.{ℕ, List, Result, Ok, Err}
use Rattle.ds_policy.specs.declared.command.Character.{Character}
use Rattle.ds_policy.specs.Value.{InputValue}

-- those that a text says, or the number of its first wrong line
abbrev pub keys_in : Result InputValue ℕ → Result (List Character) ℕ
keys_in (Ok input) = Ok input.characters
keys_in (Err line) = Err line
