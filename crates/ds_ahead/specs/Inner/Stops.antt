-- Addresses at which a run ahead ends early.
use Rattle.std.specs.Prelude.{◌≡◌, ℕ, ◌/◌, ◌%◌, ◌<◌, Bool, false, List, slice_index_or, slice_set, true}
use Rattle.ds_core.specs.Core.{CoreState}
use Rattle.ds_ahead.specs.Inner.Ahead.{Hardware, after_steps}

-- the mark of an address: those of words with the same place in a page share one
abbrev pub mark_of : ℕ → ℕ
mark_of address = address / 4 % 1024

-- whether an address may be one of those that were marked
abbrev pub may_hold : List Bool → ℕ → Bool
may_hold marks address = slice_index_or marks (mark_of address) false

-- the marks, with that of an address more
abbrev pub marked : List Bool → ℕ → List Bool
marked marks address = slice_set marks (mark_of address) true

-- the program stands in a slot, or at no address that may be marked
abbrev pub IsClear : List Bool → CoreState → Type 0
IsClear marks c = c.slot ≡ false → may_hold marks c.pc ≡ false

-- it stands in no slot, at an address that may be marked
abbrev pub IsStop : List Bool → CoreState → Type 0
IsStop marks c = (c.slot ≡ false) × (may_hold marks c.pc ≡ true)

-- the program is clear so at each of so many steps but the first
abbrev pub ComesClear : List Bool → ℕ → Hardware → Type 0
ComesClear marks n h = (k : ℕ) → 0 < k → k < n → IsClear marks (after_steps k h).core
