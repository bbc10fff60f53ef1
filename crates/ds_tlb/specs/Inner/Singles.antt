-- Buffers in which no page of an address space has two entries.
use Rattle.std.specs.Prelude.{◌≡◌, ℕ, IsTrue, IsSomeAnd, List, slice_get}
use Rattle.ds_tlb.specs.declared.entry.Entry.{Entry}
use Rattle.ds_tlb.specs.Entries.{matches}

-- the slot's entry matches
abbrev pub MatchesAt : ℕ → ℕ → List Entry → ℕ → Type 0
MatchesAt vpn asid entries slot = IsSomeAnd (slice_get entries slot) (λ e. IsTrue (matches vpn asid e))

-- no entry of another slot matches
pub record IsOnlyMatch (vpn asid : ℕ) (entries : List Entry) (slot : ℕ) : Type 0 where
  pub same_slot : (other : ℕ) → MatchesAt vpn asid entries other → other ≡ slot
