-- The processor as a record, and how it goes on after an instruction or an exception (Kane and Heinrich, chapter 5).
use Rattle.std.specs.Prelude.{ℕ, Bool, true, false, Option, Some, None}
use Rattle.ds_isa.specs.Registers.{Registers, settled, written}
use Rattle.ds_isa.specs.Meaning.{past_slot}
use Rattle.ds_core.specs.declared.event.Event.{Event}
use Rattle.ds_core.specs.declared.event.Event.TheVariants.{Retired, Branched, Raised}

-- whether an exception is entered; an interrupt is one
abbrev pub is_raised : Event → Bool
is_raised Retired = false
is_raised Branched = false
is_raised (Raised code) = true

-- the registers after a branch, with the address after its slot in the one that links
abbrev pub with_link : Option ℕ → ℕ → Registers → Registers
with_link None pc r = settled r
with_link (Some n) pc r = written r n (past_slot pc)
