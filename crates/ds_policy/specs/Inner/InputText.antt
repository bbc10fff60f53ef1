-- What an input says: its commands and characters, or the first line that is wrong.
use Rattle.std.specs.Prelude.{◌≡◌, ℕ, Result, Ok, Err}
use Rattle.ds_policy.specs.declared.events.fault.EventsFault.{EventsFault}
use Rattle.ds_policy.specs.declared.events.fault.EventsFault.TheVariants.{InputFault, Memory}
use Rattle.ds_policy.specs.Value.{InputValue}

-- the reading answered what the text says, unless memory ran out
abbrev pub Gives : Result InputValue EventsFault → Result InputValue ℕ → Type 0
Gives (Ok input) said = said ≡ Ok input
Gives (Err (InputFault line)) said = said ≡ Err line
Gives (Err Memory) said = Unit {0}

-- the number of a refusal
abbrev pub events_fault_number : EventsFault → ℕ
events_fault_number (InputFault line) = 20
events_fault_number Memory = 25
