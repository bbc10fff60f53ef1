-- The memory of a bus, lent for writing.
use Rattle.std.specs.Prelude.{ℕ, List}
use Rattle.std.specs.Borrow.{Lends, MutBor, Fml}
use Rattle.ds_mem.specs.contracts.memory.Memory.{the_row as memory_row}
use Rattle.ds_dev.specs.Bus.{BusState}
use Rattle.ds_dev.specs.contracts.bus.Bus.{the_row}
use Rattle.ds_dev.specs.contracts.known.KnownMemory.{the_row as known_row}

-- the bus with other bytes of memory
abbrev pub with_memory : BusState → List ℕ → BusState
with_memory b memory = record b { memory = memory }

-- the bus ends with the last bytes after the loan as its memory
abbrev pub LendsMemory : MutBor BusState → MutBor (List ℕ) → Fml
LendsMemory bus loan = Lends the_row memory_row bus loan (with_memory bus.now)

-- memory with its pages ends with the last bytes after the loan
abbrev pub LendsBytes : MutBor (List ℕ) → MutBor (List ℕ) → Fml
LendsBytes known loan = Lends known_row memory_row known loan (λ bytes. bytes)
