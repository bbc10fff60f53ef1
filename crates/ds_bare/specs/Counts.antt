-- What is counted of a run.
use Rattle.std.specs.Prelude.{ℕ, ◌+◌, ◌-◌, ◌^◌, min, Bool, true, false, ◌==◌, ◌&&◌, ◌||◌, [], ◌∷◌, slice_index, slice_set, Option, Some, None, bit_and}
use Rattle.ds_word.specs.Word.{bits}
use Rattle.ds_cp0.specs.declared.exception.ExceptionCode.{ExceptionCode}
use Rattle.ds_cp0.specs.Codes.{code_number}
use Rattle.ds_dev.specs.Bus.{BusState}
use Rattle.ds_core.specs.declared.event.Event.{Event}
use Rattle.ds_core.specs.declared.event.Event.TheVariants.{Retired, Branched, Raised}
use Rattle.ds_core.specs.Coprocessor.{system_reads}
use Rattle.ds_core.specs.Core.{CoreState}
use Rattle.ds_bare.specs.declared.counts.Counts.{Counts}

-- nothing yet
abbrev pub none_counted : Counts
none_counted = record {
  refills = 0;
  writes = 0;
  lines = 0;
  clock = 0;
  came = 0;
  exceptions = 0 ∷ 0 ∷ 0 ∷ 0 ∷ 0 ∷ 0 ∷ 0 ∷ 0 ∷ 0 ∷ 0 ∷ 0 ∷ 0 ∷ 0 ∷ [];
}

-- A count with so many more. It stops at the greatest number of 64 bits, to which no run comes.
abbrev pub plus : ℕ → ℕ → ℕ
plus count more = min (count + more) (2 ^ 64 - 1)

-- one more, where it is so
abbrev pub plus_if : Bool → ℕ → ℕ
plus_if true count = plus count 1
plus_if false count = count

-- `tlbwi` or `tlbwr`
abbrev pub writes_slot : Option ℕ → Bool
writes_slot None = false
writes_slot (Some w) = (w == 0x42000002) || (w == 0x42000006)

-- whether what asks at a bit of Cause is let through by the mask of Status
abbrev pub interrupts_at : ℕ → CoreState → BusState → Bool
interrupts_at at c b = bits (bit_and (system_reads c b 13) c.system.status) at 1 == 1

-- with an exception that led to this processor: a refill is one at 80000000; the lines ask at bit 10, and the clock at bit 11
unfoldable pub raised_counted : Counts → ExceptionCode → CoreState → BusState → Counts
raised_counted k code c b = record k {
  refills = plus_if (c.pc == 0x80000000) k.refills;
  lines = plus_if ((code_number code == 0) && interrupts_at 10 c b) k.lines;
  clock = plus_if ((code_number code == 0) && interrupts_at 11 c b) k.clock;
  exceptions = slice_set k.exceptions (code_number code) (plus (slice_index k.exceptions (code_number code)) 1);
}

-- with a step of the instruction with this word
abbrev pub step_counted : Counts → Option ℕ → Event → CoreState → BusState → Counts
step_counted k w Retired c b = record k { writes = plus_if (writes_slot w) k.writes }
step_counted k w Branched c b = k
step_counted k w (Raised code) c b = raised_counted k code c b

-- with characters that came in
abbrev pub came_counted : Counts → ℕ → Counts
came_counted k more = record k { came = plus k.came more }
