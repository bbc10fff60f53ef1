-- Which pairs of a user's page and an address space a buffer holds.
use Rattle.std.specs.Prelude.{◌≡◌, ℕ, ◌<◌, ◌^◌, List, slice_get, Some}
use Rattle.ds_tlb.specs.declared.entry.Entry.{Entry}

-- each pair of a user's page and an address space stood there before
pub record HasNoNewPairs (old new : List Entry) : Type 0 where
  pub each : (slot : ℕ) (e : Entry) → slice_get new slot ≡ Some e → e.vpn < 2 ^ 19
      → (i : ℕ) × (f : Entry) × (slice_get old i ≡ Some f) × (f.vpn ≡ e.vpn) × (f.asid ≡ e.asid)
