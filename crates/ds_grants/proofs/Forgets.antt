-- A buffer that has forgotten what was changed.
use Rattle.std.proofs.Common.{◌≡◌, ◌⊎◌, ℕ, ◌+◌, ◌-◌, ◌/◌, ◌^◌, ◌<◌, ◌≤◌, true, false, List, length, Option, Some, None, refl, sym, ap, subst, ◌∙◌, arith, inl, inr, length-set}
use Rattle.std.specs.Prelude.{slice_get}
use Rattle.std.proofs.lemmas.Bool.Decides.{nat_tests}
use Rattle.std.proofs.lemmas.List.Quantifiers.{position-Some}
use Rattle.ds_tlb.specs.declared.entry.Entry.{Entry}
use Rattle.ds_tlb.specs.Entries.{matches, find, empty_entry}
use Rattle.ds_tlb.specs.Singles.{match_each_other, IsSingle}
use Rattle.ds_tlb.specs.Words.{entry_of}
use Rattle.ds_grants.specs.State.{GrantsState}
use Rattle.ds_grants.proofs.Translations.{at_set, set_single, found_there}
use Rattle.ds_tables.specs.Places.{Places, region_of}
use Rattle.ds_asid.specs.Spaces.{Spaces, space_number}
use Rattle.ds_asid.specs.Inner.Spaces.{number_held}
use Rattle.ds_asid.proofs.Apart.{none_held, some_held}
use Rattle.ds_grants.specs.Buffer.{hi_of, lo_of, read_only, IsMapped, BufferHolds}
use Rattle.ds_grants.specs.Inner.Changes.{cleared, forgotten, both_forgotten, IsChangedAt}
use Rattle.ds_grants.proofs.Fields.{user_lo, table_lo}

-- What is true of a buffer whatever is granted.
pub record IsPlain (entries : List Entry) : Type 0 where
  pub single : IsSingle entries
  pub apart : (slot : ℕ) (e : Entry) → slice_get entries slot ≡ Some e → IsMapped e.vpn ⊎ (e ≡ empty_entry slot)
  pub own : (slot : ℕ) (e : Entry) → slice_get entries slot ≡ Some e → e.g ≡ false
  pub few : length entries ≤ 64

-- each entry is that of its slot at the start, or stood there before and is of another key
pub record IsLess (old new : List Entry) (vpn asid : ℕ) : Type 0 where
  pub each : (slot : ℕ) (e : Entry) → slice_get new slot ≡ Some e → (e ≡ empty_entry slot) ⊎ ((slice_get old slot ≡ Some e) × (e.vpn ≡ vpn → e.asid ≡ asid → ⊥))

matches_itself : (e : Entry) (vpn asid : ℕ) → e.vpn ≡ vpn → e.asid ≡ asid → matches vpn asid e ≡ true
matches_itself e vpn asid a b = grind (arith, nat_tests)

empty_alone : (entries : List Entry) (slot j : ℕ) (f : Entry) → IsPlain entries → slot < 64 → slice_get entries j ≡ Some f → match_each_other (empty_entry slot) f ≡ true → j ≡ slot
empty_alone entries slot j f k small at m =
    let page : 2 ^ 19 + slot ≡ f.vpn = grind (arith, nat_tests) in
    elim (k.apart j f at) [
      | inl mapped ↦ elim mapped [ inl low ↦ absurd (omega arith) | inr high ↦ (let least = high.0 in absurd (omega arith)) ]
      | inr start ↦ let own : f.vpn ≡ 2 ^ 19 + j = ap (λ (x : Entry). x.vpn) start in omega arith
    ]

forgets_by : (entries : List Entry) (vpn asid : ℕ) (found : Option ℕ) → found ≡ find entries vpn asid → IsPlain entries → IsPlain (cleared entries found) × IsLess entries (cleared entries found) vpn asid
forgets_by entries vpn asid None is k =
    (k, record { each = λ slot e at. inr (at, λ page space. (let hit : None ≡ Some slot = is ∙ found_there entries vpn asid slot e (find entries vpn asid) k.single refl at (matches_itself e vpn asid page space) in absurd cc)) })
forgets_by entries vpn asid (Some here) is k =
    let few = k.few in
    let size = length-set entries here (empty_entry here) in
    let within = (position-Some (matches vpn asid) entries here (empty_entry 0) (sym is)).0 in (
      record {
        single = set_single entries here (empty_entry here) k.single (λ j f at m. empty_alone entries here j f k (omega arith) at m);
        apart = λ slot e at. elim (at_set entries here slot (empty_entry here) e at) [
          | inl there ↦ inr (there.1 ∙ ap empty_entry (sym there.0))
          | inr there ↦ k.apart slot e there.1
        ];
        own = λ slot e at. elim (at_set entries here slot (empty_entry here) e at) [
          | inl there ↦ ap (λ (x : Entry). x.g) there.1
          | inr there ↦ k.own slot e there.1
        ];
        few = omega arith;
      },
      record {
        each = λ slot e at. elim (at_set entries here slot (empty_entry here) e at) [
          | inl there ↦ inl (there.1 ∙ ap empty_entry (sym there.0))
          | inr there ↦ inr (there.1, λ page space. (let hit : Some here ≡ Some slot = is ∙ found_there entries vpn asid slot e (find entries vpn asid) k.single refl there.1 (matches_itself e vpn asid page space) in let same : slot ≡ here = cc in there.0 same))
        ];
      },
    )

pub forgets : (entries : List Entry) (vpn asid : ℕ) → IsPlain entries → IsPlain (forgotten entries vpn asid) × IsLess entries (forgotten entries vpn asid) vpn asid
forgets entries vpn asid k = forgets_by entries vpn asid (find entries vpn asid) refl k

plain_of : (entries : List Entry) (s : Spaces) (g : GrantsState) (t : Places) → BufferHolds entries s g t → IsPlain entries
plain_of entries s g t k = record { single = k.single; apart = k.apart; own = k.own; few = k.few }

pub none_of_start : (slot : ℕ) (e : Entry) → e ≡ empty_entry slot → 0 < e.asid → ⊥
none_of_start slot e start some = let none : e.asid ≡ 0 = ap (λ (x : Entry). x.asid) start in omega arith

-- What a process has in its address space besides what was forgotten is of other pages.
module _ (g h : GrantsState) (t u : Places) (p address : ℕ) (changed : IsChangedAt g h t u p address) where
  by_table : (vpn q : ℕ) → 0 < q → 0xC0000 ≤ vpn → (q ≡ p → vpn ≡ 0xC0000 + region_of address → ⊥) → lo_of g t q vpn ≡ lo_of h u q vpn
  by_table vpn q running high other =
      let is : vpn ≡ 0xC0000 + (vpn - 0xC0000) = omega (arith, high) in
      subst (λ (n : ℕ). lo_of g t q n ≡ lo_of h u q n) (sym is)
      (table_lo g t q (vpn - 0xC0000) ∙ (ap (λ (n : ℕ). read_only n) (sym (changed.tables q (vpn - 0xC0000) running (λ own region. other own (is ∙ ap (λ (n : ℕ). 0xC0000 + n) region)))) ∙ sym (table_lo h u q (vpn - 0xC0000))))

  same : (vpn q : ℕ) → 0 < q → IsMapped vpn → (q ≡ p → vpn ≡ address / 2 ^ 12 → ⊥) → (q ≡ p → vpn ≡ 0xC0000 + region_of address → ⊥) → lo_of g t q vpn ≡ lo_of h u q vpn
  same vpn q running (inl low) other table = user_lo g t q vpn low ∙ (sym (changed.words q vpn running other) ∙ sym (user_lo h u q vpn low))
  same vpn q running (inr high) other table = by_table vpn q running high.0 table

  -- nothing stands there of a process that has no address space
  kept_of_none : (entries : List Entry) (s : Spaces) → space_number s p ≡ 0 → BufferHolds entries s g t → BufferHolds entries s h u
  kept_of_none entries s none k = record {
    few = k.few;
    single = k.single;
    apart = k.apart;
    own = k.own;
    backed = λ slot e q at running some number.
        let b = k.backed slot e q at running some number in
        let not_own : q ≡ p → ⊥ = λ own. (let zero_there : e.asid ≡ 0 = sym number ∙ (ap (space_number s) own ∙ none) in omega (arith, zero_there, some)) in
        record { mapped = b.mapped; words = b.words ∙ ap (entry_of (hi_of e.vpn e.asid)) (same e.vpn q running b.mapped (λ own page. not_own own) (λ own page. not_own own)) };
    used = k.used;
  }

  forgotten_of : (entries : List Entry) (s : Spaces) (asid : ℕ) → space_number s p ≡ asid → BufferHolds entries s g t → BufferHolds (both_forgotten entries address (Some asid)) s h u
  forgotten_of entries s asid is k =
      let first = forgets entries (address / 2 ^ 12) asid (plain_of entries s g t k) in
      let second = forgets (forgotten entries (address / 2 ^ 12) asid) (0xC0000 + region_of address) asid first.0 in
      record {
        few = second.0.few;
        single = second.0.single;
        apart = second.0.apart;
        own = second.0.own;
        backed = λ slot e q at running some number. elim (second.1.each slot e at) [
          | inl start ↦ absurd (none_of_start slot e start some)
          | inr stays ↦ elim (first.1.each slot e stays.0) [
            | inl start ↦ absurd (none_of_start slot e start some)
            | inr was ↦
                let b = k.backed slot e q was.0 running some number in
                let space : q ≡ p → e.asid ≡ asid = λ own. sym number ∙ (ap (space_number s) own ∙ is) in
                record { mapped = b.mapped; words = b.words ∙ ap (entry_of (hi_of e.vpn e.asid)) (same e.vpn q running b.mapped (λ own page. was.1 page (space own)) (λ own page. stays.1 page (space own))) }
          ]
        ];
        used = λ slot e at some. elim (second.1.each slot e at) [
          | inl start ↦ absurd (none_of_start slot e start some)
          | inr stays ↦ elim (first.1.each slot e stays.0) [
            | inl start ↦ absurd (none_of_start slot e start some)
            | inr was ↦ k.used slot e was.0 some
          ]
        ];
      }

  by_held : (entries : List Entry) (s : Spaces) (held : Option ℕ) → number_held s p ≡ held → BufferHolds entries s g t → BufferHolds (both_forgotten entries address held) s h u
  by_held entries s None none k = kept_of_none entries s (none_held s p none) k
  by_held entries s (Some asid) some k = forgotten_of entries s asid (some_held s p asid some) k

  pub buffer_changed : (entries : List Entry) (s : Spaces) → BufferHolds entries s g t → BufferHolds (both_forgotten entries address (number_held s p)) s h u
  buffer_changed entries s k = by_held entries s (number_held s p) refl k
