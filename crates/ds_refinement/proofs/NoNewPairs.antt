-- No new pair of a user's page and an address space comes into a buffer.
use Rattle.std.proofs.Common.{◌≡◌, ℕ, ◌+◌, ◌/◌, ◌^◌, ◌<◌, ◌≤◌, List, [], ◌∷◌, length, get_or, Option, Some, None, refl, sym, ap, subst, ◌∙◌, arith, inl, inr}
use Rattle.std.specs.Prelude.{slice_get, slice_set}
use Rattle.std.proofs.lemmas.Option.{slice_get_within, slice_get-get_or, get_or_from_slice_get}
use Rattle.std.proofs.lemmas.List.FromFn.{length-map-range_with_len, get_or-map-range_with_len}
use Rattle.ds_tlb.specs.declared.entry.Entry.{Entry}
use Rattle.ds_tlb.specs.Entries.{find, empty_entry, empty_entries}
use Rattle.ds_policy.specs.declared.grant.EntryPlace.{EntryPlace}
use Rattle.ds_asid.specs.Spaces.{Spaces}
use Rattle.ds_asid.specs.Inner.Spaces.{number_held}
use Rattle.ds_tables.specs.Places.{region_of}
use Rattle.ds_grants.specs.Inner.Changes.{cleared, forgotten, both_forgotten, all_forgotten}
use Rattle.ds_grants.specs.Copies.{AreRewritten}
use Rattle.ds_grants.proofs.Translations.{at_set}
use Rattle.ds_refinement.specs.Pairs.{HasNoNewPairs}

pub same_pairs : (es : List Entry) → HasNoNewPairs es es
same_pairs es = record { each = λ slot e at user. (slot, e, at, refl, refl) }

pub joined_pairs : (a b c : List Entry) → HasNoNewPairs a b → HasNoNewPairs b c → HasNoNewPairs a c
joined_pairs a b c x y = record {
  each = λ slot e at user.
      let mid = y.each slot e at user in
      let first = x.each mid.0 mid.1 mid.2 (subst (λ (n : ℕ). n < 2 ^ 19) (sym mid.3) user) in
      (first.0, first.1, first.2, first.3 ∙ mid.3, first.4 ∙ mid.4);
}

-- a slot of an empty buffer has what it has at the start
is_start : (n slot : ℕ) (e : Entry) → slice_get (empty_entries n) slot ≡ Some e → e ≡ empty_entry slot
is_start n slot e at =
    let long = length-map-range_with_len empty_entry 0 n in
    let within = slice_get_within (empty_entries n) slot e at in
    sym (get_or_from_slice_get (empty_entries n) slot e e at) ∙ get_or-map-range_with_len empty_entry 0 n slot slot e (omega arith) (omega arith)

-- an empty buffer has no page of a user
pub flushed_pairs : (old : List Entry) (n : ℕ) → HasNoNewPairs old (empty_entries n)
flushed_pairs old n = record { each = λ slot e at user. (let page : e.vpn ≡ 2 ^ 19 + slot = ap (λ (x : Entry). x.vpn) (is_start n slot e at) in absurd (omega arith)) }

pub written_pairs : (old : List Entry) (slot : ℕ) (e : Entry) → 2 ^ 19 ≤ e.vpn → HasNoNewPairs old (slice_set old slot e)
written_pairs old slot e high = record {
  each = λ i f at user. elim (at_set old slot i e f at) [
    | inl new ↦ (let page : f.vpn ≡ e.vpn = ap (λ (x : Entry). x.vpn) new.1 in absurd (omega arith))
    | inr was ↦ (i, f, was.1, refl, refl)
  ];
}

cleared_pairs : (old : List Entry) (found : Option ℕ) → HasNoNewPairs old (cleared old found)
cleared_pairs old None = same_pairs old
cleared_pairs old (Some slot) = written_pairs old slot (empty_entry slot) (omega arith)

pub forgotten_pairs : (old : List Entry) (address : ℕ) (number : Option ℕ) → HasNoNewPairs old (both_forgotten old address number)
forgotten_pairs old address None = same_pairs old
forgotten_pairs old address (Some asid) =
    let between : List Entry = forgotten old (address / 2 ^ 12) asid in
    joined_pairs old between (both_forgotten old address (Some asid)) (cleared_pairs old (find old (address / 2 ^ 12) asid))
    (cleared_pairs between (find between (0xC0000 + region_of address) asid))

pub all_forgotten_pairs : (old : List Entry) (s : Spaces) (places : List EntryPlace) → HasNoNewPairs old (all_forgotten old s places)
all_forgotten_pairs old s [] = same_pairs old
all_forgotten_pairs old s (place ∷ rest) =
    let between : List Entry = both_forgotten old place.address (number_held s place.process) in
    joined_pairs old between (all_forgotten between s rest) (forgotten_pairs old place.address (number_held s place.process))
    (all_forgotten_pairs between s rest)

-- entries that are rewritten keep their pairs
pub rewritten_pairs : (old new : List Entry) → AreRewritten old new → HasNoNewPairs old new
rewritten_pairs old new same = record {
  each = λ slot e at user.
      let size = same.1 in
      let within : slot < length old = let inside = slice_get_within new slot e at in omega (arith, size, inside) in
      let was : slice_get old slot ≡ Some (get_or old slot e) = slice_get-get_or old slot e within in
      let now = same.0 slot (get_or old slot e) was in
      let is : now.0 ≡ e = alike now.0 e (sym now.1 ∙ at) in
      (slot, get_or old slot e, was, sym now.2 ∙ ap (λ (x : Entry). x.vpn) is, sym now.3 ∙ ap (λ (x : Entry). x.asid) is);
}
  where
    alike : (x y : Entry) → Some x ≡ Some y → x ≡ y
    alike x y same = cc
