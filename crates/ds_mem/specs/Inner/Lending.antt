-- A frame that is lent for writing.
use Rattle.std.specs.Prelude.{ℕ, List}
use Rattle.std.specs.Borrow.{Lends, MutBor, Fml, Array, u8}
use Rattle.ds_mem.specs.Memory.{with_frame}
use Rattle.ds_mem.specs.contracts.memory.Memory.{the_row}

-- memory ends with the last bytes after the loan in the frame's place
abbrev pub LendsFrame : MutBor (List ℕ) → ℕ → MutBor (List ℕ) → Fml
LendsFrame memory f loan = Lends the_row (Array u8 0) memory loan (with_frame memory.now f)
