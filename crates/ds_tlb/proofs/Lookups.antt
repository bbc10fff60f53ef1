-- A search of one bucket of the index: the slots that are left to try, from the lowest on.
use Rattle.std.proofs.Common.{◌≡◌, ℕ, ◌-◌, ◌*◌, ◌^◌, ◌%◌, ◌<◌, ◌≤◌, true, false, List, length, Some, None, get_or, arith, inl, inr, sym, refl, ◌∙◌, ap, cond, nat_eq, w64}
use Rattle.std.specs.Prelude.{slice_get}
use Rattle.std.specs.Int.{bit_at, trailing_zeros}
use Rattle.std.specs.List.{position_or_len}
use Rattle.std.proofs.lemmas.Bool.{cases_eq, cases_lt, eq-eqb}
use Rattle.std.proofs.lemmas.Bool.Decides.{nat_tests}
use Rattle.std.proofs.lemmas.Option.{slice_get-get_or, slice_get_past}
use Rattle.std.proofs.lemmas.List.Sums.{position_or_len_is}
use Rattle.std.proofs.lemmas.Nat.Bits.{bit_at-trailing_zeros, bit_at-zero}
use Rattle.std.proofs.lemmas.Nat.{and_le_l}
use Rattle.ds_tlb.specs.declared.entry.Entry.{Entry}
use Rattle.ds_tlb.specs.Entries.{matches, find}
use Rattle.ds_tlb.specs.Inner.Buckets.{bucket_of, bucket_bit, IsBucketOf}
use Rattle.ds_tlb.proofs.Bits.{no_entry, without_slot, without_bit}

-- only entries of the bucket are left to try, and every other entry fails
pub record IsLeft (rest vpn asid : ℕ) (entries : List Entry) : Type 0 where
  pub inside : (slot : ℕ) → slot < 64 → bit_at rest slot ≡ 1 → slot < length entries
  pub passed : (slot : ℕ) → slot < length entries → bit_at rest slot ≡ 0 → matches vpn asid (get_or entries slot no_entry) ≡ false

pub left_at_first : (bits vpn asid : ℕ) (entries : List Entry) → length entries ≤ 64 → IsBucketOf bits (bucket_of vpn) entries → IsLeft bits vpn asid entries
left_at_first bits vpn asid entries few bucket = record {
  inside = λ slot low one.
      elim (cases_lt slot (length entries)) [
        | inl here ↦ here
        | inr past ↦
            let none : bit_at bits slot ≡ bucket_bit (bucket_of vpn) None = rw (slice_get_past entries slot past) at (bucket.slots slot low) in
            absurd (omega (arith, none, one))
      ];
  passed = λ slot here zero.
      let entry : Entry = get_or entries slot no_entry in
      let read : slice_get entries slot ≡ Some entry = slice_get-get_or entries slot no_entry here in
      let bit : bit_at bits slot ≡ bucket_bit (bucket_of vpn) (Some entry) = rw read at (bucket.slots slot (omega arith)) in
      let out : cond (nat_eq (bucket_of entry.vpn) (bucket_of vpn)) 1 0 ≡ 0 = sym bit ∙ zero in
      grind (arith, nat_tests);
}

-- what is left after a slot that fails
pub left_after : (rest vpn asid : ℕ) (entries : List Entry) → length entries ≤ 64 → 0 < rest → rest < 2 ^ 64 → IsLeft rest vpn asid entries →
    matches vpn asid (get_or entries (trailing_zeros w64 rest) no_entry) ≡ false → IsLeft (without_slot rest (trailing_zeros w64 rest)) vpn asid entries
left_after rest vpn asid entries few some fits left fails =
    let slot : ℕ = trailing_zeros w64 rest in
    let low = (bit_at-trailing_zeros w64 rest some fits).0 in
    record {
      inside = λ i small one.
          let bit : bit_at (without_slot rest slot) i ≡ cond (nat_eq i slot) 0 (bit_at rest i) = without_bit rest slot i low small in
          left.inside i small (grind (arith, nat_tests));
      passed = λ i here zero. elim (cases_eq i slot) [
        | inl same ↦ rw same fails
        | inr other ↦
            let bit : bit_at (without_slot rest slot) i ≡ cond (nat_eq i slot) 0 (bit_at rest i) = without_bit rest slot i low (omega arith) in
            left.passed i here (grind (arith, nat_tests))
      ];
    }

-- the lowest slot that is left
pub first_is_inside : (rest vpn asid : ℕ) (entries : List Entry) → 0 < rest → rest < 2 ^ 64 → IsLeft rest vpn asid entries → trailing_zeros w64 rest < length entries
first_is_inside rest vpn asid entries some fits left =
    let first = bit_at-trailing_zeros w64 rest some fits in
    left.inside (trailing_zeros w64 rest) first.0 first.1

-- it is the lowest match where it matches
pub found_first : (rest vpn asid : ℕ) (entries : List Entry) → 0 < rest → rest < 2 ^ 64 → IsLeft rest vpn asid entries →
    matches vpn asid (get_or entries (trailing_zeros w64 rest) no_entry) ≡ true → find entries vpn asid ≡ Some (trailing_zeros w64 rest)
found_first rest vpn asid entries some fits left hit =
    let slot : ℕ = trailing_zeros w64 rest in
    let first = bit_at-trailing_zeros w64 rest some fits in
    let inside : slot < length entries = first_is_inside rest vpn asid entries some fits left in
    let e : position_or_len (matches vpn asid) entries ≡ slot = position_or_len_is (matches vpn asid) entries slot no_entry (omega arith) (λ k below. left.passed k (omega arith) (first.2 k below)) (λ _. hit) in
    rw e (grind (arith, nat_tests))

-- with none left nothing matches
pub found_none : (rest vpn asid : ℕ) (entries : List Entry) → rest ≡ 0 → IsLeft rest vpn asid entries → find entries vpn asid ≡ None
found_none rest vpn asid entries none left =
    let e : position_or_len (matches vpn asid) entries ≡ length entries =
    position_or_len_is (matches vpn asid) entries (length entries) no_entry (omega arith) (λ k below. left.passed k below (rw none (bit_at-zero k))) (λ h. absurd (omega arith)) in
    rw e (grind (arith, nat_tests))

-- each try leaves fewer
pub fewer_left : (rest : ℕ) → 0 < rest → rest < 2 ^ 64 → without_slot rest (trailing_zeros w64 rest) < rest
fewer_left rest some fits =
    let slot : ℕ = trailing_zeros w64 rest in
    let first = bit_at-trailing_zeros w64 rest some fits in
    let gone : bit_at (without_slot rest slot) slot ≡ 0 = without_bit rest slot slot first.0 first.0 ∙ rw (eq-eqb slot slot refl) refl in
    elim (cases_lt (without_slot rest slot) rest) [
      | inl less ↦ less
      | inr more ↦
          let same : without_slot rest slot ≡ rest = omega (arith, and_le_l rest (2 ^ 64 - 1 - 1 * 2 ^ slot % 2 ^ 64)) in
          let one : bit_at (without_slot rest slot) slot ≡ 1 = ap (λ n. bit_at n slot) same ∙ first.1 in
          absurd (cc)
    ]
