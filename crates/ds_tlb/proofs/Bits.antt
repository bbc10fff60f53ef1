-- The index of a buffer: its buckets at the start, after a write, and in a search.
use Rattle.std.proofs.Common.{◌≡◌, ◌≢◌, ℕ, zero, suc, ◌+◌, ◌-◌, ◌*◌, ◌^◌, ◌%◌, ◌<◌, ◌≤◌, false, List, [], ◌∷◌, length, set, Some, None, get_or, arith, inl, inr, refl, ◌∙◌, ap, cond, nat_eq, nat_lt, ◌&&◌, bit_and, bit_or}
use Rattle.std.specs.Prelude.{slice_get}
use Rattle.std.specs.Int.{bit_at}
use Rattle.std.proofs.lemmas.Bool.{cases_eq, cases_lt, ne_eqb, eq-eqb, lt-ltb, le-ltb}
use Rattle.std.proofs.lemmas.Bool.Decides.{nat_tests}
use Rattle.std.proofs.lemmas.Option.{slice_get-get_or, slice_get_past}
use Rattle.std.proofs.lemmas.List.{get_or-set_same, get_or-set_other, length-set}
use Rattle.std.proofs.lemmas.Nat.{one_shl}
use Rattle.std.proofs.lemmas.Nat.Bits.{bit_at_set_same, bit_at_set_other, bit_at_clear_same, bit_at_clear_other, bit_at-zero, bit_at-pow_same, bit_at-pow_other}
use Rattle.std.proofs.Common.{w64}
use Rattle.ds_tlb.specs.declared.entry.Entry.{Entry}
use Rattle.std.proofs.lemmas.List.FromFn.{length-map-range_with_len, get_or-map-range_with_len}
use Rattle.ds_tlb.specs.Entries.{empty_entry, empty_entries}
use Rattle.ds_tlb.specs.Inner.Buckets.{bucket_of, bucket_bit, IsIndexOf}

-- what a read past the last slot gives
abbrev pub no_entry : Entry
no_entry = record { vpn = 0; asid = 0; pfn = 0; n = false; d = false; v = false; g = false }

-- the bits with and without that of a slot
abbrev pub with_slot : ℕ → ℕ → ℕ
with_slot bits slot = bit_or bits (1 * 2 ^ slot % 2 ^ 64)

abbrev pub without_slot : ℕ → ℕ → ℕ
without_slot bits slot = bit_and bits (2 ^ 64 - 1 - 1 * 2 ^ slot % 2 ^ 64)

read_set_same : {X : Type 0} → (xs : List X) (i : ℕ) (y : X) → i < length xs → slice_get (set xs i y) i ≡ Some y
read_set_same [] i y inside = absurd (omega arith)
read_set_same (x ∷ xs) zero y inside = refl
read_set_same (x ∷ xs) (suc i) y inside = read_set_same xs i y (omega arith)

pub read_set_other : {X : Type 0} → (xs : List X) (i j : ℕ) (y : X) → j ≢ i → slice_get (set xs i y) j ≡ slice_get xs j
read_set_other [] i j y other = refl
read_set_other (x ∷ xs) zero zero y other = absurd (other refl)
read_set_other (x ∷ xs) zero (suc j) y other = refl
read_set_other (x ∷ xs) (suc i) zero y other = refl
read_set_other (x ∷ xs) (suc i) (suc j) y other = read_set_other xs i j y (λ same. other (ap suc same))

-- the bits of either
pub with_bit : (bits slot i : ℕ) → slot < 64 → bit_at (with_slot bits slot) i ≡ cond (nat_eq i slot) 1 (bit_at bits i)
with_bit bits slot i p = elim (cases_eq i slot) [
  | inl same ↦ rw (same, eq-eqb slot slot refl) (bit_at_set_same w64 bits slot p)
  | inr other ↦ rw (ne_eqb i slot other) (bit_at_set_other w64 bits slot p i other)
]

pub without_bit : (bits slot i : ℕ) → slot < 64 → i < 64 → bit_at (without_slot bits slot) i ≡ cond (nat_eq i slot) 0 (bit_at bits i)
without_bit bits slot i p q = elim (cases_eq i slot) [
  | inl same ↦ rw (same, eq-eqb slot slot refl) (bit_at_clear_same w64 bits slot p)
  | inr other ↦ rw (ne_eqb i slot other) (bit_at_clear_other w64 bits slot p i q other)
]

cleared_bit : (buckets : List ℕ) (b h slot i : ℕ) → b < length buckets → slot < 64 → i < 64 →
    bit_at (get_or (set buckets b (without_slot (get_or buckets b 0) slot)) h 0) i ≡ cond (nat_eq h b && nat_eq i slot) 0 (bit_at (get_or buckets h 0) i)
cleared_bit buckets b h slot i p q r = elim (cases_eq h b) [
  | inl same ↦ rw (same, eq-eqb b b refl, get_or-set_same buckets b (without_slot (get_or buckets b 0) slot) 0 p) (without_bit (get_or buckets b 0) slot i q r)
  | inr other ↦ rw (ne_eqb h b other, get_or-set_other buckets b h (without_slot (get_or buckets b 0) slot) 0 other) refl
]

joined_bit : (buckets : List ℕ) (b h slot i : ℕ) → b < length buckets → slot < 64 →
    bit_at (get_or (set buckets b (with_slot (get_or buckets b 0) slot)) h 0) i ≡ cond (nat_eq h b && nat_eq i slot) 1 (bit_at (get_or buckets h 0) i)
joined_bit buckets b h slot i p q = elim (cases_eq h b) [
  | inl same ↦ rw (same, eq-eqb b b refl, get_or-set_same buckets b (with_slot (get_or buckets b 0) slot) 0 p) (with_bit (get_or buckets b 0) slot i q)
  | inr other ↦ rw (ne_eqb h b other, get_or-set_other buckets b h (with_slot (get_or buckets b 0) slot) 0 other) refl
]

pub bucket_small : (vpn : ℕ) → bucket_of vpn < 128
unfolding bucket_of
bucket_small vpn = elim (cases_lt vpn (2 ^ 19)) [
  | inl lower ↦ rw (lt-ltb vpn (2 ^ 19) lower) (omega arith)
  | inr upper ↦ rw (le-ltb vpn (2 ^ 19) upper) (omega arith)
]

-- a page of the entries at the start
empty_bucket : (i : ℕ) → i < 64 → bucket_of (2 ^ 19 + i) ≡ i
unfolding bucket_of
empty_bucket i low = rw (le-ltb (2 ^ 19 + i) (2 ^ 19) (omega arith)) (omega arith)

moved_bit : (buckets : List ℕ) (entries : List Entry) (slot old new : ℕ) (entry : Entry) (h i : ℕ) →
    length buckets ≡ 128 → length entries ≤ 64 → slot < length entries → old ≡ bucket_of (get_or entries slot no_entry).vpn → new ≡ bucket_of entry.vpn →
    IsIndexOf buckets entries → h < 128 → i < 64 →
    let cleared = set buckets old (without_slot (get_or buckets old 0) slot) in
    bit_at (get_or (set cleared new (with_slot (get_or cleared new 0) slot)) h 0) i ≡ bucket_bit h (slice_get (set entries slot entry) i)
moved_bit buckets entries slot old new entry h i size few inside was now index small low =
    let cleared = set buckets old (without_slot (get_or buckets old 0) slot) in
    let fits : slot < 64 = omega arith in
    let at_old : old < length buckets = omega (arith, bucket_small (get_or entries slot no_entry).vpn) in
    let at_new : new < length cleared = omega (arith, length-set {A = ℕ}, bucket_small entry.vpn) in
    let here = (index.each h small).slots i low in
    let first : bit_at (get_or cleared h 0) i ≡ cond (nat_eq h old && nat_eq i slot) 0 (bit_at (get_or buckets h 0) i) = cleared_bit buckets old h slot i at_old fits low in
    let second = joined_bit cleared new h slot i at_new fits in
    elim (cases_eq i slot) [
      | inl same ↦
          let read : slice_get (set entries slot entry) i ≡ Some entry = rw same (read_set_same entries slot entry inside) in
          let before : slice_get entries i ≡ Some (get_or entries slot no_entry) = rw same (slice_get-get_or entries slot no_entry inside) in
          let was_bit : bit_at (get_or buckets h 0) i ≡ bucket_bit h (Some (get_or entries slot no_entry)) = rw before at here in
          rw (read, second, first) (grind (arith, nat_tests))
      | inr other ↦
          let read : slice_get (set entries slot entry) i ≡ slice_get entries i = read_set_other entries slot i entry other in
          rw (read, second, first, ne_eqb i slot other) (grind (arith, nat_tests))
    ]

-- a slot that is written leaves its old bucket and joins its new one
pub moved : (buckets : List ℕ) (entries : List Entry) (slot old new : ℕ) (entry : Entry) →
    length buckets ≡ 128 → length entries ≤ 64 → slot < length entries → old ≡ bucket_of (get_or entries slot no_entry).vpn → new ≡ bucket_of entry.vpn →
    IsIndexOf buckets entries →
    let cleared = set buckets old (without_slot (get_or buckets old 0) slot) in
    IsIndexOf (set cleared new (with_slot (get_or cleared new 0) slot)) (set entries slot entry)
moved buckets entries slot old new entry size few inside was now index = record { each = λ h small. record { slots = λ i low. moved_bit buckets entries slot old new entry h i size few inside was now index small low } }

one_bit : (h i : ℕ) → h < 64 → bit_at (1 * 2 ^ h % 2 ^ 64) i ≡ cond (nat_eq i h) 1 0
one_bit h i small =
    let power : 1 * 2 ^ h % 2 ^ 64 ≡ 2 ^ h = one_shl h 64 small in
    elim (cases_eq i h) [
      | inl same ↦ rw (power, same, eq-eqb h h refl) (bit_at-pow_same h)
      | inr other ↦ rw (power, ne_eqb i h other) (bit_at-pow_other h i other)
    ]

first_bit : (buckets : List ℕ) (n h i : ℕ) → n ≤ 64 →
    ((k : ℕ) → k < n → get_or buckets k 0 ≡ 1 * 2 ^ k % 2 ^ 64) → ((k : ℕ) → n ≤ k → k < 128 → get_or buckets k 0 ≡ 0) → h < 128 → i < 64 →
    bit_at (get_or buckets h 0) i ≡ cond (nat_lt h n) (cond (nat_eq i h) 1 0) 0
first_bit buckets n h i few ones zeros small low = elim (cases_lt h n) [
  | inl inside ↦ rw (ones h inside, lt-ltb h n inside) (one_bit h i (omega arith))
  | inr past ↦ rw (zeros h past small, le-ltb h n past) (bit_at-zero i)
]

first_slot : (n h i : ℕ) → n ≤ 64 → h < 128 → i < 64 → cond (nat_lt h n) (cond (nat_eq i h) 1 0) 0 ≡ bucket_bit h (slice_get (empty_entries n) i)
first_slot n h i few small low =
    let long : length (empty_entries n) ≡ n = length-map-range_with_len empty_entry 0 n in
    elim (cases_lt i n) [
      | inl here ↦
          let read : slice_get (empty_entries n) i ≡ Some (empty_entry i) =
          slice_get-get_or (empty_entries n) i no_entry (omega arith) ∙ ap Some (get_or-map-range_with_len empty_entry 0 n i i no_entry here (omega arith)) in
          let page : bucket_of (2 ^ 19 + i) ≡ i = empty_bucket i low in
          rw (read, page) (grind (arith, nat_tests))
      | inr past ↦
          let read : slice_get (empty_entries n) i ≡ None = slice_get_past (empty_entries n) i (omega arith) in
          rw read (grind (arith, nat_tests))
    ]

-- the buckets of the entries at the start, each with one slot
pub first_index : (buckets : List ℕ) (n : ℕ) → n ≤ 64 → length buckets ≡ 128 →
    ((h : ℕ) → h < n → get_or buckets h 0 ≡ 1 * 2 ^ h % 2 ^ 64) → ((h : ℕ) → n ≤ h → h < 128 → get_or buckets h 0 ≡ 0) → IsIndexOf buckets (empty_entries n)
first_index buckets n few size set clear = record { each = λ h small. record { slots = λ i low. first_bit buckets n h i few set clear small low ∙ first_slot n h i few small low } }
