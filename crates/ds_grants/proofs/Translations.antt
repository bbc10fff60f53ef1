-- What a buffer has after a write of one of its slots.
use Rattle.std.proofs.Common.{◌≡◌, ◌≢◌, ◌∙◌, refl, sym, ap, subst, ℕ, Bool, true, not, List, length-set, Option, Some, None, get_or, set, inl, inr, ◌⊎◌, arith}
use Rattle.std.specs.Prelude.{slice_get, slice_set}
use Rattle.std.proofs.lemmas.Bool.{cases_eq}
use Rattle.std.proofs.lemmas.Bool.Decides.{nat_tests}
use Rattle.std.proofs.lemmas.Option.{slice_get-get_or, slice_get_within, get_or_from_slice_get}
use Rattle.std.proofs.lemmas.List.{get_or-set_same, get_or-set_other}
use Rattle.ds_tlb.specs.declared.entry.Entry.{Entry}
use Rattle.ds_tlb.specs.Entries.{matches, find}
use Rattle.ds_tlb.specs.Singles.{match_each_other, IsSingle}
use Rattle.ds_tlb.specs.Inner.Singles.{IsOnlyMatch}
use Rattle.ds_tlb.proofs.Matches.{only_match, missed_match}

-- what a list holds at a place after one place was set: the new value there, or what stood
pub at_set : (entries : List Entry) (i j : ℕ) (e f : Entry) → slice_get (slice_set entries i e) j ≡ Some f → ((j ≡ i) × (f ≡ e)) ⊎ ((j ≢ i) × (slice_get entries j ≡ Some f))
at_set entries i j e f at =
    let size = length-set entries i e in
    let within = slice_get_within (set entries i e) j f at in
    let read : get_or (set entries i e) j f ≡ f = get_or_from_slice_get (set entries i e) j f f at in
    elim (cases_eq j i) [
      | inl same ↦
          let here : get_or (set entries i e) j f ≡ e = rw same (get_or-set_same entries i e f (omega arith)) in
          inl (same, sym read ∙ here)
      | inr apart ↦
          let there : get_or (set entries i e) j f ≡ get_or entries j f = get_or-set_other entries i j e f apart in
          inr (apart, slice_get-get_or entries j f (omega arith) ∙ ap (λ (x : Entry). Some x) (sym there ∙ read))
    ]

-- entries match each other either way round
match_both_ways : (e f : Entry) → match_each_other f e ≡ true → match_each_other e f ≡ true
match_both_ways e f m = grind (arith, nat_tests)

-- a slot is written with an entry that matches no other slot's
pub set_single : (entries : List Entry) (slot : ℕ) (e : Entry) → IsSingle entries → ((j : ℕ) (f : Entry) → slice_get entries j ≡ Some f → match_each_other e f ≡ true → j ≡ slot) → IsSingle (slice_set entries slot e)
set_single entries slot e single alone = record {
  same_slot = λ i j x y p q m. elim (at_set entries slot i e x p) [
    | inl here ↦ elim (at_set entries slot j e y q) [
      | inl there ↦ here.0 ∙ sym there.0
      | inr there ↦ here.0 ∙ sym (alone j y there.1 (subst (λ (z : Entry). match_each_other z y ≡ true) here.1 m))
    ]
    | inr here ↦ elim (at_set entries slot j e y q) [
      | inl there ↦ alone i x here.1 (match_both_ways e x (subst (λ (z : Entry). match_each_other x z ≡ true) there.1 m)) ∙ sym there.0
      | inr there ↦ single.same_slot i j x y here.1 there.1 m
    ]
  ];
}

-- what matches is found, where the buffer is single
pub found_there : (entries : List Entry) (vpn asid j : ℕ) (f : Entry) (found : Option ℕ) → IsSingle entries → found ≡ find entries vpn asid → slice_get entries j ≡ Some f → matches vpn asid f ≡ true → found ≡ Some j
found_there entries vpn asid j f None single is at m =
    let all = (missed_match vpn asid entries None is).0 refl in
    let none : not (matches vpn asid (get_or entries j f)) ≡ true = all j f (slice_get_within entries j f at) in
    let here : get_or entries j f ≡ f = get_or_from_slice_get entries j f f at in
    let no : not true ≡ true = subst (λ (b : Bool). not b ≡ true) m (subst (λ (x : Entry). not (matches vpn asid x) ≡ true) here none) in
    absurd (cc)
found_there entries vpn asid j f (Some slot) single is at m =
    let only : IsOnlyMatch vpn asid entries slot = only_match vpn asid entries (Some slot) is single in
    ap (λ (n : ℕ). Some n) (sym (only.same_slot j (rw at m)))
