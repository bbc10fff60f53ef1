-- Which instructions are told.
use Rattle.std.specs.Prelude.{ℕ, Bool, true, false, not, ◌==◌, ◌||◌, if◌then◌else◌, List, [], ◌++◌, slice_index, Option, Some, None}
use Rattle.ds_word.specs.Word.{bits}
use Rattle.ds_cp0.specs.Codes.{is_translation, code_number}
use Rattle.ds_dev.specs.Bus.{BusState}
use Rattle.ds_core.specs.declared.event.Event.{Event}
use Rattle.ds_core.specs.declared.event.Event.TheVariants.{Retired, Branched, Raised}
use Rattle.ds_core.specs.Core.{CoreState}
use Rattle.ds_words.specs.declared.bare_view.BareOnly.{BareOnly}
use Rattle.ds_words.specs.declared.bare_view.BareOnly.TheVariants.{End, Exceptions, Tlb, Devices}
use Rattle.ds_words.specs.declared.bare_view.BareView.{BareView}
use Rattle.ds_bare.specs.declared.before.Before.{Before}
use Rattle.ds_bare.specs.Begun.{begun_text}
use Rattle.ds_bare.specs.Steps.{numbered_step_text, others}

-- whether an exception was entered
abbrev pub is_raised : Event → Bool
is_raised Retired = false
is_raised Branched = false
is_raised (Raised code) = true

-- `tlbr`, `tlbwi`, `tlbwr` or `tlbp`
abbrev pub names_tlb : Option ℕ → Bool
names_tlb None = false
names_tlb (Some w) = (w == 0x42000001) || (w == 0x42000002) || (w == 0x42000006) || (w == 0x42000008)

-- an instruction of the buffer that is done, or one that the buffer stopped
abbrev pub is_of_tlb : Option ℕ → Event → Bool
is_of_tlb w Retired = names_tlb w
is_of_tlb w Branched = false
is_of_tlb w (Raised code) = is_translation code

-- whether a device was reached, by whether the instruction reaches one if it is done; or it interrupts
abbrev pub meets_device : Bool → Event → Bool
meets_device device Retired = device
meets_device device Branched = false
meets_device device (Raised code) = code_number code == 0

-- what the devices ask for, by the registers but the general ones: bits 10 and 11 of Cause
abbrev pub asked_in : List ℕ → ℕ
asked_in others = bits (slice_index others 8) 10 2

-- a device was reached, or interrupts, or begins or ceases to ask
abbrev pub is_of_devices : Before → Event → CoreState → BusState → Bool
is_of_devices before event c b = meets_device before.device event || not (asked_in before.others == asked_in (others c b))

-- whether an instruction is of a kind
abbrev pub is_of : Option BareOnly → Before → Event → CoreState → BusState → Bool
is_of None before event c b = true
is_of (Some End) before event c b = false
is_of (Some Exceptions) before event c b = is_raised event
is_of (Some Tlb) before event c b = is_of_tlb before.word event
is_of (Some Devices) before event c b = is_of_devices before event c b

-- its line, where it is told
abbrev pub line_shown : BareView → ℕ → Before → Event → CoreState → BusState → List ℕ
line_shown v k before event c b = if is_of v.only before event c b then numbered_step_text v.names k before event c b else []

-- where slots begin to match each other, where that is told
abbrev pub begun_shown : BareView → Before → CoreState → List ℕ
begun_shown v before c = if v.matches then begun_text before.slot before.held c.entries else []

-- both
unfoldable pub lines_shown : BareView → ℕ → Before → Event → CoreState → BusState → List ℕ
lines_shown v k before event c b = line_shown v k before event c b ++ begun_shown v before c
