-- A buffer holds at its start, and after a fill with an entry of a process.
use Rattle.std.proofs.Common.{◌≡◌, ℕ, zero, suc, ◌+◌, ◌^◌, ◌<◌, ◌≤◌, ◌==◌, Bool, true, false, cond, not, List, [], ◌∷◌, length, set, Option, Some, None, refl, sym, ap, ap₂, subst, ◌∙◌, arith, inl, inr, length-set}
use Rattle.std.specs.List.{position_or_len}
use Rattle.std.specs.Prelude.{slice_get, slice_set, unwrap_or, nat_lt, ◌&&◌, ◌||◌}
use Rattle.std.proofs.lemmas.Bool.{cases_Bool}
use Rattle.std.proofs.lemmas.Bool.Decides.{nat_tests}
use Rattle.std.proofs.lemmas.Option.{slice_get_within, get_or_from_slice_get}
use Rattle.std.proofs.lemmas.List.FromFn.{length-map-range_with_len, get_or-map-range_with_len}
use Rattle.std.proofs.lemmas.List.Sums.{prefix_len-le-length}
use Rattle.ds_tlb.specs.declared.entry.Entry.{Entry}
use Rattle.ds_tlb.specs.Entries.{matches, find, empty_entry, empty_entries}
use Rattle.ds_tlb.specs.Singles.{match_each_other}
use Rattle.ds_tlb.specs.Words.{entry_of}
use Rattle.ds_tlb.proofs.Matches.{empty_entries_are_single}
use Rattle.ds_tables.specs.Places.{Places}
use Rattle.ds_asid.specs.Spaces.{Spaces, AreApart, space_number}
use Rattle.ds_grants.specs.State.{GrantsState}
use Rattle.ds_grants.specs.Buffer.{hi_of, lo_of, IsMapped, IsBacked, BufferHolds}
use Rattle.ds_grants.specs.Inner.Buffer.{entry_for, filled}
use Rattle.ds_grants.proofs.Translations.{at_set, set_single, found_there}
use Rattle.ds_grants.proofs.Fields.{has_page, has_space, mapped_small, lo_own}

-- a slot of an empty buffer has what it has at the start
is_start : (n slot : ℕ) (e : Entry) → slice_get (empty_entries n) slot ≡ Some e → e ≡ empty_entry slot
is_start n slot e at =
    let long = length-map-range_with_len empty_entry 0 n in
    let within = slice_get_within (empty_entries n) slot e at in
    sym (get_or_from_slice_get (empty_entries n) slot e e at) ∙ get_or-map-range_with_len empty_entry 0 n slot slot e (omega arith) (omega arith)

-- an empty buffer holds, whatever is granted
pub empty_buffer : (n : ℕ) (s : Spaces) (g : GrantsState) (t : Places) → n ≤ 64 → BufferHolds (empty_entries n) s g t
empty_buffer n s g t few = record {
  few = (let long = length-map-range_with_len empty_entry 0 n in omega (arith, long, few));
  single = empty_entries_are_single n;
  apart = λ slot e at. inr (is_start n slot e at);
  own = λ slot e at. ap (λ (x : Entry). x.g) (is_start n slot e at);
  backed = λ slot e process at live some is. (let none : e.asid ≡ 0 = ap (λ (x : Entry). x.asid) (is_start n slot e at) in absurd (omega arith));
  used = λ slot e at some. (let none : e.asid ≡ 0 = ap (λ (x : Entry). x.asid) (is_start n slot e at) in absurd (omega arith));
}

-- A search finds what was written where nothing matched.

head_is_other : (b : Bool) (n m : ℕ) → cond (not b) (1 + n) 0 ≡ suc m → (b ≡ false) × (n ≡ m)
head_is_other true n m e = absurd (omega arith)
head_is_other false n m e = (refl, (omega arith))

first_there : (p : Entry → Bool) (y : Entry) → p y ≡ true → (xs : List Entry) (k : ℕ) → position_or_len p xs ≡ length xs → k < length xs → position_or_len p (set xs k y) ≡ k
first_there p y passes [] k none within = absurd (omega arith)
first_there p y passes (x ∷ xs) zero none within = ap (λ (b : Bool). cond (not b) (1 + position_or_len p xs) 0) passes
first_there p y passes (x ∷ xs) (suc k) none within =
    let h = head_is_other (p x) (position_or_len p xs) (length xs) none in
    let rest : position_or_len p (set xs k y) ≡ k = first_there p y passes xs k h.1 (omega arith) in
    let next : 1 + position_or_len p (set xs k y) ≡ suc k = omega arith in
    ap (λ (b : Bool). cond (not b) (1 + position_or_len p (set xs k y)) 0) h.0 ∙ next

as_place : (n m : ℕ) → n < m → cond (nat_lt n m) (Some n) None ≡ Some n
as_place n m below = let e : nat_lt n m ≡ true = grind (arith, nat_tests) in ap (λ (b : Bool). cond b (Some n) None) e

no_place : (n m : ℕ) → cond (nat_lt n m) (Some n) None ≡ None → m ≤ n
no_place n m e = elim (cases_Bool (nat_lt n m)) [
  | inl below ↦ absurd (some_none n (sym (ap (λ (b : Bool). cond b (Some n) None) below) ∙ e))
  | inr not_below ↦ grind (arith, nat_tests)
]
  where
    some_none : (x : ℕ) → ◌≡◌ {A = Option ℕ} (Some x) None → ⊥
    some_none x e = absurd cc

pub find_written : (entries : List Entry) (vpn asid slot : ℕ) (e : Entry) → find entries vpn asid ≡ None → slot < length entries → matches vpn asid e ≡ true → find (slice_set entries slot e) vpn asid ≡ Some slot
find_written entries vpn asid slot e none within passes =
    let whole = no_place (position_or_len (matches vpn asid) entries) (length entries) none in
    let most : position_or_len (matches vpn asid) entries ≤ length entries = prefix_len-le-length (λ (x : Entry). not (matches vpn asid x)) entries in
    let at = first_there (matches vpn asid) e passes entries slot (omega arith) within in
    let size = length-set entries slot e in
    as_place (position_or_len (matches vpn asid) (set entries slot e)) (length (set entries slot e)) (omega arith) ∙ ap (λ (n : ℕ). Some n) at

itself : (v n : ℕ) (g : Bool) → ((v == v) && (g || (n == n))) ≡ true
itself v n g = grind (arith, nat_tests)

pub same_keys : (vpn asid lo : ℕ) → vpn < 2 ^ 20 → asid < 64 → matches vpn asid (entry_of (hi_of vpn asid) lo) ≡ true
same_keys vpn asid lo a b =
    ap₂ (λ (v n : ℕ). (v == vpn) && ((entry_of (hi_of vpn asid) lo).g || (n == asid))) (has_page vpn asid lo a b) (has_space vpn asid lo a b) ∙ itself vpn asid ((entry_of (hi_of vpn asid) lo).g)

pub find_filled : (entries : List Entry) (g : GrantsState) (t : Places) (p vpn asid slot : ℕ) → vpn < 2 ^ 20 → asid < 64 → slot < length entries → find entries vpn asid ≡ None → find (slice_set entries slot (entry_for g t p asid vpn)) vpn asid ≡ Some slot
find_filled entries g t p vpn asid slot page space within none = find_written entries vpn asid slot (entry_for g t p asid vpn) none within (same_keys vpn asid (lo_of g t p vpn) page space)

-- An entry goes where what matches it stands, or in any slot where nothing does.

answers : (e f : Entry) → f.g ≡ false → e.g ≡ false → match_each_other e f ≡ true → matches e.vpn e.asid f ≡ true
answers e f h g m = grind (arith, nat_tests)

written_buffer : (entries : List Entry) (s : Spaces) (g : GrantsState) (t : Places) (p vpn slot : ℕ) → AreApart s → BufferHolds entries s g t → 0 < p → 0 < space_number s p
    → IsMapped vpn → ((j : ℕ) → find entries vpn (space_number s p) ≡ Some j → j ≡ slot) → BufferHolds (slice_set entries slot (entry_for g t p (space_number s p) vpn)) s g t
written_buffer entries s g t p vpn slot apart k live some mapped there =
    let asid : ℕ = space_number s p in
    let below : space_number s p < s.next = apart.used p in
    let few : space_number s p < 64 = (let most = apart.high in omega (arith, below, most)) in
    let e : Entry = entry_of (hi_of vpn asid) (lo_of g t p vpn) in
    let page : e.vpn ≡ vpn = has_page vpn asid (lo_of g t p vpn) (mapped_small vpn mapped) few in
    let space : e.asid ≡ asid = has_space vpn asid (lo_of g t p vpn) (mapped_small vpn mapped) few in
    let own : e.g ≡ false = lo_own (hi_of vpn asid) g t p vpn in
    record {
      few = (let size = length-set entries slot e in let most = k.few in omega (arith, size, most));
      single = set_single entries slot e k.single (λ j f at m.
          let answered : matches e.vpn e.asid f ≡ true = answers e f (k.own j f at) own m in
          let here : matches vpn asid f ≡ true = sym (ap₂ (λ (v a : ℕ). matches v a f) page space) ∙ answered in
          there j (found_there entries vpn asid j f (find entries vpn asid) k.single refl at here));
      apart = λ i f at. elim (at_set entries slot i e f at) [ inl here ↦ inl (subst IsMapped (sym (ap (λ (x : Entry). x.vpn) here.1 ∙ page)) mapped) | inr other ↦ k.apart i f other.1 ];
      own = λ i f at. elim (at_set entries slot i e f at) [ inl here ↦ ap (λ (x : Entry). x.g) here.1 ∙ own | inr other ↦ k.own i f other.1 ];
      backed = λ i f q at running number holds. elim (at_set entries slot i e f at) [
        | inl here ↦
            let same : f.asid ≡ asid = ap (λ (x : Entry). x.asid) here.1 ∙ space in
            let owner : p ≡ q = apart.apart p q some (sym same ∙ sym holds) in
            subst (λ (x : Entry). IsBacked g t q x) (sym here.1)
            (subst (λ (r : ℕ). IsBacked g t r e) owner (record {
              mapped = subst IsMapped (sym page) mapped;
              words = ap₂ (λ (v a : ℕ). entry_of (hi_of v a) (lo_of g t p v)) (sym page) (sym space);
            }))
        | inr other ↦ k.backed i f q other.1 running number holds
      ];
      used = λ i f at some_number. elim (at_set entries slot i e f at) [
        | inl here ↦ subst (λ (n : ℕ). n < s.next) (sym (ap (λ (x : Entry). x.asid) here.1 ∙ space)) below
        | inr other ↦ k.used i f other.1 some_number
      ];
    }

-- what is found stands where a fill goes
where_found : (slot j : ℕ) (found : Option ℕ) → found ≡ Some j → j ≡ unwrap_or found slot
where_found slot j found is = rw is refl

-- a fill in the place of what is there for the page
pub filled_buffer : (entries : List Entry) (s : Spaces) (g : GrantsState) (t : Places) (p vpn slot : ℕ) → AreApart s → BufferHolds entries s g t → 0 < p → 0 < space_number s p
    → IsMapped vpn → BufferHolds (filled entries vpn (space_number s p) slot (entry_for g t p (space_number s p) vpn)) s g t
filled_buffer entries s g t p vpn slot apart k live some mapped =
    written_buffer entries s g t p vpn (unwrap_or (find entries vpn (space_number s p)) slot) apart k live some mapped (λ j is. where_found slot j (find entries vpn (space_number s p)) is)

-- a fill after a miss, in any slot
pub missed_buffer : (entries : List Entry) (s : Spaces) (g : GrantsState) (t : Places) (p vpn slot : ℕ) → AreApart s → BufferHolds entries s g t → 0 < p → 0 < space_number s p
    → IsMapped vpn → find entries vpn (space_number s p) ≡ None → BufferHolds (slice_set entries slot (entry_for g t p (space_number s p) vpn)) s g t
missed_buffer entries s g t p vpn slot apart k live some mapped none =
    written_buffer entries s g t p vpn slot apart k live some mapped (λ j is. (let no : None ≡ Some j = sym none ∙ is in absurd cc))
