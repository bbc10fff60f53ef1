-- The address map (Kane and Heinrich, chapter 4).
use Rattle.std.specs.Prelude.{ℕ, ◌/◌, ◌^◌, not, IsTrue, All, List}
use Rattle.ds_tlb.specs.declared.entry.Entry.{Entry}
use Rattle.ds_tlb.specs.Entries.{matches}
use Rattle.ds_amap.specs.declared.map.Mode.{Mode}
use Rattle.ds_amap.specs.Map.{is_usable, is_direct}

-- no entry matches the address
abbrev pub IsMissing : List Entry → ℕ → ℕ → Type 0
IsMissing entries asid addr = All (λ e. IsTrue (not (matches (addr / 2 ^ 12) asid e))) entries

-- the address is mapped, the mode may use it, and no entry matches it
abbrev pub NeedsRefill : List Entry → ℕ → Mode → ℕ → Type 0
NeedsRefill entries asid mode addr = IsTrue (is_usable mode addr) × IsTrue (not (is_direct addr)) × IsMissing entries asid addr
