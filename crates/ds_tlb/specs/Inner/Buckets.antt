-- The index of a buffer: virtual pages fall into 128 buckets by the low bits of their number and by the half of the addresses that they lie in, and each bucket has the set of its slots, a bit a slot.
use Rattle.std.specs.Prelude.{◌≡◌, ℕ, ◌+◌, ◌%◌, ◌^◌, ◌<◌, ◌==◌, nat_lt, if◌then◌else◌, List, slice_get, slice_index, Option, Some, None}
use Rattle.std.specs.Int.{bit_at}
use Rattle.ds_tlb.specs.declared.entry.Entry.{Entry}

-- the bucket of a page; those of the upper half of the addresses lie apart, as the entries at the start do
unfoldable pub bucket_of : ℕ → ℕ
bucket_of vpn = vpn % 64 + (if nat_lt vpn (2 ^ 19) then 64 else 0)

-- the bit that bucket h has for a slot, by what the slot holds
abbrev pub bucket_bit : ℕ → Option Entry → ℕ
bucket_bit h None = 0
bucket_bit h (Some entry) = if bucket_of entry.vpn == h then 1 else 0

-- the bits are those of the slots whose page falls into bucket h
pub record IsBucketOf (bits : ℕ) (h : ℕ) (entries : List Entry) : Type 0 where
  pub slots : (slot : ℕ) → slot < 64 → bit_at bits slot ≡ bucket_bit h (slice_get entries slot)

-- each bucket has exactly the slots whose page falls into it
pub record IsIndexOf (buckets : List ℕ) (entries : List Entry) : Type 0 where
  pub each : (h : ℕ) → h < 128 → IsBucketOf (slice_index buckets h) h entries
