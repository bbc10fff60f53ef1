-- What a search finds: the lowest match, and the only one where the buffer is single.
use Rattle.std.proofs.Common.{refl, ◌^◌, ◌≡◌, ℕ, ◌+◌, ◌≤◌, true, List, length, Option, Some, None, get_or, arith, sym, ◌∙◌, ap, not}
use Rattle.std.specs.Prelude.{slice_get, IfSome, IsNone, IsSomeAnd, All, ◌↔◌, IsTrue}
use Rattle.std.specs.List.{position_or_len}
use Rattle.std.proofs.lemmas.Option.{slice_get-get_or, slice_get_within, get_or_from_slice_get}
use Rattle.std.proofs.lemmas.List.FromFn.{length-map-range_with_len, get_or-map-range_with_len}
use Rattle.std.proofs.lemmas.List.Quantifiers.{position-Some}
use Rattle.std.proofs.lemmas.List.Sums.{fails_before_first}
use Rattle.std.proofs.lemmas.Bool.Decides.{nat_tests}
use Rattle.ds_tlb.specs.declared.entry.Entry.{Entry}
use Rattle.ds_tlb.specs.Entries.{matches, find, empty_entry, empty_entries}
use Rattle.ds_tlb.specs.Singles.{match_each_other, IsSingle}
use Rattle.ds_tlb.specs.Inner.Singles.{IsOnlyMatch, MatchesAt}

-- entries that answer for one page of one address space match one another
pub both_match : (vpn asid : ℕ) (e f : Entry) → matches vpn asid e ≡ true → matches vpn asid f ≡ true → match_each_other e f ≡ true
both_match vpn asid e f p q = grind (arith, nat_tests)

of_read : (vpn asid : ℕ) (found : Option Entry) → IsSomeAnd found (λ e. IsTrue (matches vpn asid e)) → (e : Entry) × (found ≡ Some e) × (matches vpn asid e ≡ true)
of_read vpn asid None m = absurd m
of_read vpn asid (Some e) m = (e, refl, m)

-- a match by its entry
pub entry_of_match : (vpn asid : ℕ) (entries : List Entry) (slot : ℕ) → MatchesAt vpn asid entries slot → (e : Entry) × (slice_get entries slot ≡ Some e) × (matches vpn asid e ≡ true)
entry_of_match vpn asid entries slot m = of_read vpn asid (slice_get entries slot) m

only_at : (vpn asid : ℕ) (entries : List Entry) (slot : ℕ) → IsSingle entries → MatchesAt vpn asid entries slot → IsOnlyMatch vpn asid entries slot
only_at vpn asid entries slot single m = record {
  same_slot = λ other n.
      let here = entry_of_match vpn asid entries slot m in
      let there = entry_of_match vpn asid entries other n in
      single.same_slot other slot there.0 here.0 there.1 here.1 (both_match vpn asid there.0 here.0 there.2 here.2);
}

-- what is found matches
pub found_matches : (vpn asid : ℕ) (entries : List Entry) (slot : ℕ) → find entries vpn asid ≡ Some slot → MatchesAt vpn asid entries slot
found_matches vpn asid entries slot e =
    let at = position-Some (matches vpn asid) entries slot (empty_entry 0) e in
    let read : slice_get entries slot ≡ Some (get_or entries slot (empty_entry 0)) = slice_get-get_or entries slot (empty_entry 0) at.0 in
    rw read at.1

-- where the buffer is single, what is found is the only match
pub only_match : (vpn asid : ℕ) (entries : List Entry) (found : Option ℕ) → found ≡ find entries vpn asid → IsSingle entries → IfSome found (λ slot. IsOnlyMatch vpn asid entries slot)
only_match vpn asid entries None e single = tt
only_match vpn asid entries (Some slot) e single = only_at vpn asid entries slot single (found_matches vpn asid entries slot (sym e))

pub found_match : (vpn asid : ℕ) (entries : List Entry) (found : Option ℕ) → found ≡ find entries vpn asid → IfSome found (λ slot. MatchesAt vpn asid entries slot)
found_match vpn asid entries None e = tt
found_match vpn asid entries (Some slot) e = found_matches vpn asid entries slot (sym e)

-- nothing is found where no entry matches, and only there
pub missed_match : (vpn asid : ℕ) (entries : List Entry) (found : Option ℕ) → found ≡ find entries vpn asid → IsNone found ↔ All (λ e. IsTrue (not (matches vpn asid e))) entries
missed_match vpn asid entries None e =
    let past : length entries ≤ position_or_len (matches vpn asid) entries = grind (arith, nat_tests) in
    (λ _ k d inside. (let fails = fails_before_first (matches vpn asid) entries k d (omega arith) in rw fails refl), λ _. refl)
missed_match vpn asid entries (Some slot) e =
    let at = position-Some (matches vpn asid) entries slot (empty_entry 0) (sym e) in
    (λ miss. absurd (cc), λ all. (let none : not true ≡ true = rw at.1 at (all slot (empty_entry 0) at.0) in absurd (cc)))

-- the entries at the start match only themselves
pub empty_entries_are_single : (n : ℕ) → IsSingle (empty_entries n)
empty_entries_are_single n = record {
  same_slot = λ i j e f p q m.
      let long = length-map-range_with_len empty_entry 0 n in
      let i_in = slice_get_within (empty_entries n) i e p in
      let j_in = slice_get_within (empty_entries n) j f q in
      let at_i : empty_entry i ≡ e = sym (get_or-map-range_with_len empty_entry 0 n i i e (omega arith) (omega arith)) ∙ get_or_from_slice_get (empty_entries n) i e e p in
      let at_j : empty_entry j ≡ f = sym (get_or-map-range_with_len empty_entry 0 n j j f (omega arith) (omega arith)) ∙ get_or_from_slice_get (empty_entries n) j f f q in
      let page_i : 2 ^ 19 + i ≡ e.vpn = ap (λ x. x.vpn) at_i in
      let page_j : 2 ^ 19 + j ≡ f.vpn = ap (λ x. x.vpn) at_j in
      let same : e.vpn ≡ f.vpn = grind (arith, nat_tests) in
      omega arith;
}
