-- The characters of an input.
use Rattle.std.specs.Prelude.{◌≡◌, ℕ, Result, Err}
use Rattle.ds_policy.specs.declared.events.fault.EventsFault.{EventsFault}
use Rattle.ds_policy.specs.declared.events.fault.EventsFault.TheVariants.{InputFault, Memory}
use Rattle.ds_policy.specs.Value.{InputValue}

-- the text has this fault; want of memory says nothing of the text
abbrev pub IsFaultOf : Result InputValue ℕ → EventsFault → Type 0
IsFaultOf said (InputFault line) = said ≡ Err line
IsFaultOf said Memory = Unit {0}
