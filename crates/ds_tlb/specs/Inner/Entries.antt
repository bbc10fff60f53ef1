-- The translation lookaside buffer as the list of its entries, one for each slot.
use Rattle.std.specs.Prelude.{ℕ, zero, suc}
use Rattle.ds_tlb.specs.Entries.{random_after}

-- Random after so many more instructions
abbrev pub passed : ℕ → ℕ → ℕ → ℕ → ℕ
passed slots wired zero random = random
passed slots wired (suc n) random = random_after slots wired (passed slots wired n random)
