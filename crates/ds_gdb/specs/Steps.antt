-- How far an action goes.
use Rattle.std.specs.Prelude.{ℕ, Bool, true, false, not, nat_lt}
use Rattle.ds_word.specs.Word.{minus}
use Rattle.ds_packets.specs.declared.packet.Action.{Action}
use Rattle.ds_packets.specs.declared.packet.Action.TheVariants.{Continue, Step, Range}

-- an address lies from the first on, and before the second, in 32 bits
abbrev pub is_within : ℕ → ℕ → ℕ → Bool
is_within from to pc = nat_lt (minus pc from) (minus to from)

-- a step is done, which was to go so far, and came to this address
abbrev pub is_done : Action → ℕ → Bool
is_done Continue pc = false
is_done Step pc = true
is_done (Range from to) pc = not (is_within from to pc)
