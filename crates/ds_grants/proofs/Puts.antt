-- Page-table words after a change of one entry.
use Rattle.std.proofs.Common.{◌≡◌, ◌≢◌, ◌⊎◌, ℕ, zero, suc, ◌+◌, ◌-◌, ◌*◌, ◌/◌, ◌%◌, ◌^◌, ◌<◌, ◌≤◌, ◌==◌, Bool, true, false, cond, not, List, [], ◌∷◌, ◌++◌, length, filter, map, set, Option, Some, None, refl, sym, ap, ap₂, subst, ◌∙◌, arith, inl, inr, length-set}
use Rattle.std.specs.List.{list_any}
use Rattle.std.specs.Prelude.{◌&&◌, ◌||◌, is_some, get_or, slice_set}
use Rattle.std.proofs.lemmas.Bool.{cases_Bool, cases_eq}
use Rattle.std.proofs.lemmas.Bool.Decides.{nat_tests}
use Rattle.std.proofs.lemmas.List.{get_or-set_same, get_or-set_other}
use Rattle.ds_policy.specs.declared.grant.Grant.{Grant}
use Rattle.ds_policy.specs.declared.grant.Right.{Right}
use Rattle.ds_policy.specs.declared.grant.Entry.{Entry}
use Rattle.ds_policy.specs.Pages.{Table, entries_of, found, put, entry_at, with_entry, erased_entry}
use Rattle.ds_policy.specs.Grants.{is_some_right, is_write, count_distinct}
use Rattle.ds_policy.proofs.DistinctCounts.{count_insert}
use Rattle.ds_pagemap.proofs.Entries.{entry_at-with_entry, entry_at-erased_entry}
use Rattle.ds_word.specs.Word.{bit}
use Rattle.ds_grants.specs.declared.layout.Place.{Place}
use Rattle.ds_grants.specs.State.{GrantsState}
use Rattle.ds_grants.specs.Inner.State.{place_of_page, with_grant, erased_grant}
use Rattle.ds_tables.specs.Places.{Places, ArePlaces, region_of, places_of, region_place}
use Rattle.ds_tables.specs.Inner.Places.{freed, free_place, has_place, opened, closed, with_place}
use Rattle.ds_tables.specs.Inner.Tables as tables
use Rattle.ds_tables.specs.Tables.{HasEmptyTable, entry_word}
use Rattle.ds_tables.proofs.PlaceLemmas.{places_at, no_places, is_free_place, four_places, region_place-new, region_place-other, region_place-closed, region_place-kept}
use Rattle.ds_tables.proofs.Map.{put_words, closed_words, opened_old, opened_new}
use Rattle.ds_grants.specs.Words.{word_of_right, word_of_grant, granted_word, regions_taken, WordsHold}
use Rattle.ds_grants.specs.Inner.Changes.{is_used, memory_without, places_without}
use Rattle.ds_grants.proofs.FifthRegion.{same_number, itself, either, has, placed_by_taken}

-- Entries of a row, put and removed.

both_true : (x y : Bool) → (x && y) ≡ true → (x ≡ true) × (y ≡ true)
both_true true y e = (refl, e)
both_true false y e = absurd cc

missed : (p q r s : ℕ) → q ≡ p → s ≡ r → ((q == p) && (r == s)) ≡ false → ⊥
missed p q r s own region e = let no : true ≡ false = sym (ap₂ (λ (a b : Bool). a && b) (ap (λ (n : ℕ). n == p) own ∙ itself p) (ap (λ (n : ℕ). r == n) region ∙ itself r)) ∙ e in absurd cc

abbrev pub used : ℕ → List Entry → Bool
used s es = list_any (λ (e : Entry). region_of e.address == s) es

found_put : (es : List Entry) (a : ℕ) (g : Grant) → found (put es a g) a ≡ Some g
found_put [] a g = ap (λ (b : Bool). cond b (Some g) None) (itself a)
found_put (e ∷ es) a g = elim (cases_Bool (e.address == a)) [
  | inl here ↦ rw here (ap (λ (b : Bool). cond b (Some g) (found es a)) (itself a))
  | inr other ↦ rw other (ap (λ (b : Bool). cond b (Some e.grant) (found (put es a g) a)) other ∙ found_put es a g)
]

found_gone : (es : List Entry) (a : ℕ) → found (filter (λ (e : Entry). not (e.address == a)) es) a ≡ None
found_gone [] a = refl
found_gone (e ∷ es) a = elim (cases_Bool (e.address == a)) [
  | inl here ↦ rw here (found_gone es a)
  | inr other ↦ rw other (ap (λ (b : Bool). cond b (Some e.grant) (found (filter (λ (x : Entry). not (x.address == a)) es) a)) other ∙ found_gone es a)
]

twice_or : (x y : Bool) → (x || y) ≡ (x || (x || y))
twice_or true y = refl
twice_or false y = refl

turned_or : (x y z : Bool) → (x || (y || z)) ≡ (y || (x || z))
turned_or true true z = refl
turned_or true false z = refl
turned_or false y z = refl

used_put : (s : ℕ) (es : List Entry) (a : ℕ) (g : Grant) → used s (put es a g) ≡ ((region_of a == s) || used s es)
used_put s [] a g = refl
used_put s (e ∷ es) a g = elim (cases_Bool (e.address == a)) [
  | inl here ↦
      let is : e.address ≡ a = same_number e.address a here in
      rw here (twice_or (region_of a == s) (used s es) ∙ ap (λ (n : ℕ). (region_of a == s) || ((region_of n == s) || used s es)) (sym is))
  | inr other ↦ rw other (ap (λ (b : Bool). (region_of e.address == s) || b) (used_put s es a g) ∙ turned_or (region_of e.address == s) (region_of a == s) (used s es))
]

used_gone : (s : ℕ) (es : List Entry) (a : ℕ) → (region_of a == s) ≡ false → used s (filter (λ (e : Entry). not (e.address == a)) es) ≡ used s es
used_gone s [] a apart = refl
used_gone s (e ∷ es) a apart = elim (cases_Bool (e.address == a)) [
  | inl here ↦
      let is : e.address ≡ a = same_number e.address a here in
      let out : (region_of e.address == s) ≡ false = ap (λ (n : ℕ). region_of n == s) is ∙ apart in
      rw (here, out) (used_gone s es a apart)
  | inr other ↦ rw other (ap (λ (b : Bool). (region_of e.address == s) || b) (used_gone s es a apart))
]

pub none_found : (es : List Entry) (b r : ℕ) → used r es ≡ false → region_of b ≡ r → found es b ≡ None
none_found [] b r none at = refl
none_found (e ∷ es) b r none at =
    let both = either (region_of e.address == r) (used r es) none in
    let other : (e.address == b) ≡ false = elim (cases_Bool (e.address == b)) [
      | inl here ↦ (let is : region_of e.address ≡ r = ap region_of (same_number e.address b here) ∙ at in let no : true ≡ false = sym (ap (λ (n : ℕ). n == r) is ∙ itself r) ∙ both.0 in absurd cc)
      | inr apart ↦ apart
    ] in
    ap (λ (x : Bool). cond x (Some e.grant) (found es b)) other ∙ none_found es b r both.1 at

-- who has an entry at an address has one in its region
pub found_used : (es : List Entry) (a : ℕ) → is_some (found es a) ≡ true → used (region_of a) es ≡ true
found_used es a there = elim (cases_Bool (used (region_of a) es)) [
  | inl is ↦ is
  | inr none ↦ (let no : false ≡ true = sym (ap is_some (none_found es a (region_of a) none refl)) ∙ there in absurd cc)
]

-- The rows of a table.

entries_put : (t : Table) (p a : ℕ) (g : Grant) → 0 < p → p ≤ length t → entries_of (with_entry t p a g) p ≡ put (entries_of t p) a g
entries_put t p a g low high = get_or-set_same t (p - 1) (put (entries_of t p) a g) [] (omega arith)

entries_gone : (t : Table) (p a : ℕ) → 0 < p → p ≤ length t → entries_of (erased_entry t p a) p ≡ filter (λ (e : Entry). not (e.address == a)) (entries_of t p)
entries_gone t p a low high = get_or-set_same t (p - 1) (filter (λ (e : Entry). not (e.address == a)) (entries_of t p)) [] (omega arith)

pub foreign_row : (t : Table) (p q : ℕ) (row : List Entry) → 0 < p → 0 < q → q ≢ p → entries_of (slice_set t (p - 1) row) q ≡ entries_of t q
foreign_row t p q row low live apart = get_or-set_other t (p - 1) (q - 1) row [] (λ (e : ◌≡◌ {A = ℕ} (q - 1) (p - 1)). apart (omega arith))

-- a word depends on where its page lies alone
pub word_by_place : (g h : GrantsState) (right : Right) (page : Option ℕ) → place_of_page h page ≡ place_of_page g page → word_of_right h right page ≡ word_of_right g right page
word_by_place g h right None same = refl
word_by_place g h right (Some q) same = ap₂ (λ (f : ℕ) (b : Bool). cond (is_some_right right) ((f + 402) * 2 ^ 12 + bit 10 (is_write right && not b) + bit 9 true) 0) (ap frame_there same) (ap mark_there same)
  where
    frame_there : Option Place → ℕ
    frame_there None = 0
    frame_there (Some place) = place.frame

    mark_there : Option Place → Bool
    mark_there None = false
    mark_there (Some place) = place.shared

-- so it doesn't depend on the table
pub same_word : (g : GrantsState) (t : Table) (ended : List Bool) (o : Option Grant) → word_of_grant (record g { table = t; ended = ended }) o ≡ word_of_grant g o
same_word g t ended None = refl
same_word g t ended (Some grant) = by_page grant.right grant.page
  where
    by_page : (right : Right) (page : Option ℕ) → word_of_right (record g { table = t; ended = ended }) right page ≡ word_of_right g right page
    by_page right None = refl
    by_page right (Some q) = refl

-- Places.

own_places : (t : Places) (p i : ℕ) (row : List (Option ℕ)) → 0 < p → p ≤ length t → places_of (slice_set t (p - 1) row) p ≡ row
own_places t p i row low high = places_at (slice_set t (p - 1) row) p low ∙ get_or-set_same t (p - 1) row [] (omega arith)

foreign_places : (t : Places) (p q : ℕ) (row : List (Option ℕ)) → 0 < p → q ≢ p → places_of (slice_set t (p - 1) row) q ≡ places_of t q
foreign_places t p q row low apart = elim (cases_eq q 0) [
  | inl none ↦ no_places (slice_set t (p - 1) row) q none ∙ sym (no_places t q none)
  | inr some ↦
      places_at (slice_set t (p - 1) row) q (omega arith)
      ∙ get_or-set_other t (p - 1) (q - 1) row [] (λ (e : ◌≡◌ {A = ℕ} (q - 1) (p - 1)). apart (omega arith))
      ∙ sym (places_at t q (omega arith))
]

-- what is put at a free place is one more
pub record IsInserted (r : ℕ) (ps qs : List (Option ℕ)) : Type 0 where
  pub front : List ℕ
  pub back : List ℕ
  pub before : regions_taken ps ≡ front ++ back
  pub after : regions_taken qs ≡ front ++ r ∷ back

inserted : (r : ℕ) (ps : List (Option ℕ)) (k : ℕ) → k < length ps → get_or ps k None ≡ None → IsInserted r ps (set ps k (Some r))
inserted r [] k within free = absurd (omega arith)
inserted r (None ∷ ps) zero within free = record { front = []; back = regions_taken ps; before = refl; after = refl }
inserted r (Some q ∷ ps) zero within free = absurd cc
inserted r (None ∷ ps) (suc k) within free =
    let rest = inserted r ps k (omega arith) free in
    record { front = rest.front; back = rest.back; before = rest.before; after = rest.after }
inserted r (Some q ∷ ps) (suc k) within free =
    let rest = inserted r ps k (omega arith) free in
    record { front = q ∷ rest.front; back = rest.back; before = ap (λ (l : List ℕ). q ∷ l) rest.before; after = ap (λ (l : List ℕ). q ∷ l) rest.after }

longer : (us vs : List ℕ) (r : ℕ) → length (us ++ r ∷ vs) ≡ length (us ++ vs) + 1
longer [] vs r = omega arith
longer (u ∷ us) vs r = let rest = longer us vs r in omega (arith, rest)

distinct_inserted : (r : ℕ) (ps qs : List (Option ℕ)) → IsInserted r ps qs → has r (regions_taken ps) ≡ false → count_distinct (regions_taken ps) ≡ length (regions_taken ps) → count_distinct (regions_taken qs) ≡ length (regions_taken qs)
distinct_inserted r ps qs i new distinct =
    ap count_distinct i.after ∙ (count_insert r i.front i.back
    ∙ (ap (λ (l : List ℕ). count_distinct (r ∷ l)) (sym i.before)
    ∙ (ap (λ (b : Bool). cond b (count_distinct (regions_taken ps)) (count_distinct (regions_taken ps) + 1)) new
    ∙ (ap (λ (n : ℕ). n + 1) (distinct ∙ ap length i.before) ∙ (sym (longer i.front i.back r) ∙ sym (ap length i.after))))))

-- An opened region.

pub some_is : (o : Option ℕ) → is_some o ≡ true → (k : ℕ) × (o ≡ Some k)
some_is None e = absurd cc
some_is (Some k) e = (k, refl)

pub none_is : (o : Option ℕ) → is_some o ≡ false → o ≡ None
none_is None e = refl
none_is (Some k) e = absurd cc

-- whether it had a table, or gets one at a free place
opens : (t : Places) (p r : ℕ) → has_place t p r ≡ true → ((k : ℕ) × (region_place t p r ≡ Some k)) ⊎ ((region_place t p r ≡ None) × ((k : ℕ) × (free_place t p ≡ Some k)))
opens t p r room = elim (cases_Bool (is_some (region_place t p r))) [
  | inl old ↦ inl (some_is (region_place t p r) old)
  | inr new ↦ inr (none_is (region_place t p r) new, some_is (free_place t p) (sym (ap (λ (b : Bool). b || is_some (free_place t p)) new) ∙ room))
]

opened_some : (t : Places) (p r q s : ℕ) → ArePlaces t → has_place t p r ≡ true → is_some (region_place (opened t p r) q s) ≡ (((q == p) && (r == s)) || is_some (region_place t q s))
opened_some t p r q s are room = elim (opens t p r room) [
  | inl old ↦
      ap (λ (u : Places). is_some (region_place u q s)) (opened_old t p r old.0 old.1)
      ∙ elim (cases_Bool ((q == p) && (r == s))) [
        | inl hit ↦
            let both = both_true (q == p) (r == s) hit in
            let here : region_place t q s ≡ Some old.0 = ap₂ place_of_t (same_number q p both.0) (sym (same_number r s both.1)) ∙ old.1 in
            rw hit (ap is_some here)
        | inr miss ↦ rw miss refl
      ]
  | inr new ↦
      let k : ℕ = new.1.0 in
      let spot = is_free_place t p k are new.1.1 in
      ap (λ (u : Places). is_some (region_place u q s)) (opened_new t p r k new.0 new.1.1)
      ∙ elim (cases_Bool ((q == p) && (r == s))) [
        | inl hit ↦
            let both = both_true (q == p) (r == s) hit in
            let here : region_place (with_place t p k r) q s ≡ Some k = ap₂ (λ (x y : ℕ). region_place (with_place t p k r) x y) (same_number q p both.0) (sym (same_number r s both.1)) ∙ region_place-new t p k r are spot new.0 in
            rw hit (ap is_some here)
        | inr miss ↦ rw miss (ap is_some (region_place-other t p q k r s spot (λ own region. missed p q r s own region miss)))
      ]
]
  where
    place_of_t : ℕ → ℕ → Option ℕ
    place_of_t x y = region_place t x y

opened_distinct : (t : Places) (p r : ℕ) → ArePlaces t → has_place t p r ≡ true → ((q : ℕ) → count_distinct (regions_taken (places_of t q)) ≡ length (regions_taken (places_of t q)))
    → (q : ℕ) → count_distinct (regions_taken (places_of (opened t p r) q)) ≡ length (regions_taken (places_of (opened t p r) q))
opened_distinct t p r are room distinct q = elim (opens t p r room) [
  | inl old ↦ subst (λ (u : Places). count_distinct (regions_taken (places_of u q)) ≡ length (regions_taken (places_of u q))) (sym (opened_old t p r old.0 old.1)) (distinct q)
  | inr new ↦
      let k : ℕ = new.1.0 in
      let spot = is_free_place t p k are new.1.1 in
      let four = four_places t p are spot.low spot.high in
      let within = spot.within in
      subst (λ (u : Places). count_distinct (regions_taken (places_of u q)) ≡ length (regions_taken (places_of u q))) (sym (opened_new t p r k new.0 new.1.1))
      (elim (cases_eq q p) [
        | inl own ↦ subst (λ (ps : List (Option ℕ)). count_distinct (regions_taken ps) ≡ length (regions_taken ps)) (sym (ap (places_of (with_place t p k r)) own ∙ own_places t p k (slice_set (places_of t p) k (Some r)) spot.low spot.high))
            (distinct_inserted r (places_of t p) (slice_set (places_of t p) k (Some r)) (inserted r (places_of t p) k (omega arith) spot.held) (sym (placed_by_taken t p r) ∙ ap is_some new.0) (distinct p))
        | inr foreign ↦ subst (λ (ps : List (Option ℕ)). count_distinct (regions_taken ps) ≡ length (regions_taken ps)) (sym (foreign_places t p q (slice_set (places_of t p) k (Some r)) spot.low foreign)) (distinct q)
      ])
]

-- A closed region.

has_freed : (a r : ℕ) (ps : List (Option ℕ)) → has a (regions_taken ps) ≡ false → has a (regions_taken (map (freed r) ps)) ≡ false
has_freed a r [] e = refl
has_freed a r (None ∷ ps) e = has_freed a r ps e
has_freed a r (Some q ∷ ps) e =
    let both = either (q == a) (has a (regions_taken ps)) e in
    elim (cases_Bool (q == r)) [
      | inl gone ↦ rw gone (has_freed a r ps both.1)
      | inr stays ↦ rw stays (ap (λ (b : Bool). b || has a (regions_taken (map (freed r) ps))) both.0 ∙ has_freed a r ps both.1)
    ]

few_different : (xs : List ℕ) → count_distinct xs ≤ length xs
few_different [] = omega arith
few_different (x ∷ xs) = let rest = few_different xs in elim (cases_Bool (has x xs)) [ inl again ↦ rw again (omega (arith, rest)) | inr new ↦ rw new (omega (arith, rest)) ]

freed_distinct : (r : ℕ) (ps : List (Option ℕ)) → count_distinct (regions_taken ps) ≡ length (regions_taken ps) → count_distinct (regions_taken (map (freed r) ps)) ≡ length (regions_taken (map (freed r) ps))
freed_distinct r [] e = refl
freed_distinct r (None ∷ ps) e = freed_distinct r ps e
freed_distinct r (Some q ∷ ps) e =
    let most = few_different (regions_taken ps) in
    elim (cases_Bool (has q (regions_taken ps))) [
      | inl again ↦ (let count : count_distinct (regions_taken ps) ≡ suc (length (regions_taken ps)) = rw again at e in absurd (omega (arith, most, count)))
      | inr new ↦
          let count : count_distinct (regions_taken ps) + 1 ≡ suc (length (regions_taken ps)) = rw new at e in
          let rest : count_distinct (regions_taken (map (freed r) ps)) ≡ length (regions_taken (map (freed r) ps)) = freed_distinct r ps (omega (arith, count)) in
          elim (cases_Bool (q == r)) [
            | inl gone ↦ rw gone rest
            | inr stays ↦ rw (stays, has_freed q r ps new) (let done : count_distinct (regions_taken (map (freed r) ps)) + 1 ≡ suc (length (regions_taken (map (freed r) ps))) = omega (arith, rest) in done)
          ]
    ]

pub closed_distinct : (t : Places) (p r : ℕ) → 0 < p → p ≤ length t → ((q : ℕ) → count_distinct (regions_taken (places_of t q)) ≡ length (regions_taken (places_of t q)))
    → (q : ℕ) → count_distinct (regions_taken (places_of (closed t p r) q)) ≡ length (regions_taken (places_of (closed t p r) q))
closed_distinct t p r low high distinct q =
    let row : closed t p r ≡ slice_set t (p - 1) (map (freed r) (places_of t p)) = (let e : (p == 0) ≡ false = grind (arith, nat_tests) in ap (λ (b : Bool). cond b t (slice_set t (p - 1) (map (freed r) (places_of t p)))) e) in
    subst (λ (u : Places). count_distinct (regions_taken (places_of u q)) ≡ length (regions_taken (places_of u q))) (sym row)
    (elim (cases_eq q p) [
      | inl own ↦ subst (λ (ps : List (Option ℕ)). count_distinct (regions_taken ps) ≡ length (regions_taken ps)) (sym (ap (places_of (slice_set t (p - 1) (map (freed r) (places_of t p)))) own ∙ own_places t p 0 (map (freed r) (places_of t p)) low high)) (freed_distinct r (places_of t p) (distinct p))
      | inr foreign ↦ subst (λ (ps : List (Option ℕ)). count_distinct (regions_taken ps) ≡ length (regions_taken ps)) (sym (foreign_places t p q (map (freed r) (places_of t p)) low foreign)) (distinct q)
    ])

closed_some : (t : Places) (p r q s : ℕ) → is_some (region_place (closed t p r) q s) ≡ (not ((q == p) && (r == s)) && is_some (region_place t q s))
closed_some t p r q s = elim (cases_Bool ((q == p) && (r == s))) [
  | inl hit ↦
      let both = both_true (q == p) (r == s) hit in
      rw hit (ap is_some (ap₂ (λ (x y : ℕ). region_place (closed t p r) x y) (same_number q p both.0) (sym (same_number r s both.1)) ∙ region_place-closed t p r))
  | inr miss ↦ rw miss (ap is_some (region_place-kept t p q r s (λ own region. missed p q r s own region miss)))
]

-- a region that is used once an entry is gone was used before
used_by_rest : (a : ℕ) (es : List Entry) → used (region_of a) (filter (λ (e : Entry). not (e.address == a)) es) ≡ true → used (region_of a) es ≡ true
used_by_rest a [] e = e
used_by_rest a (x ∷ es) e = elim (cases_Bool (x.address == a)) [
  | inl here ↦ (let at : (region_of x.address == region_of a) ≡ true = ap (λ (n : ℕ). region_of n == region_of a) (same_number x.address a here) ∙ itself (region_of a) in ap (λ (b : Bool). b || used (region_of a) es) at)
  | inr other ↦ (let rest : ((region_of x.address == region_of a) || used (region_of a) (filter (λ (y : Entry). not (y.address == a)) es)) ≡ true = rw other at e in
      elim (cases_Bool (region_of x.address == region_of a)) [
        | inl first ↦ ap (λ (b : Bool). b || used (region_of a) es) first
        | inr later ↦ ap (λ (b : Bool). b || used (region_of a) es) later ∙ used_by_rest a es (sym (ap (λ (b : Bool). b || used (region_of a) (filter (λ (y : Entry). not (y.address == a)) es)) later) ∙ rest)
      ])
]

pub used_before : (t : Table) (p a : ℕ) → 0 < p → p ≤ length t → used (region_of a) (entries_of (erased_entry t p a) p) ≡ true → used (region_of a) (entries_of t p) ≡ true
used_before t p a low high stays = used_by_rest a (entries_of t p) (sym (ap (used (region_of a)) (entries_gone t p a low high)) ∙ stays)

-- The words after a change of the entry of a process at an address.
module _ (memory : List ℕ) (t : Places) (g : GrantsState) (p a : ℕ) (k : WordsHold memory t g) (are : ArePlaces t) (size : 2 ^ 23 ≤ length memory) (empty : HasEmptyTable memory)
    (low : 0 < p) (high : p ≤ length g.table) (page : a % 2 ^ 12 ≡ 0) where
  abbrev r : ℕ
  r = region_of a

  at_address : (q vpn : ℕ) → ((q == p) && (vpn * 2 ^ 12 / 2 ^ 12 == a / 2 ^ 12)) ≡ true → (q ≡ p) × (vpn * 2 ^ 12 ≡ a)
  at_address q vpn hit =
      let both = both_true (q == p) (vpn * 2 ^ 12 / 2 ^ 12 == a / 2 ^ 12) hit in
      let same : vpn * 2 ^ 12 / 2 ^ 12 ≡ a / 2 ^ 12 = same_number (vpn * 2 ^ 12 / 2 ^ 12) (a / 2 ^ 12) both.1 in
      (same_number q p both.0, (omega (arith, same, page)))

  elsewhere : (q vpn : ℕ) → ((q == p) && (vpn * 2 ^ 12 / 2 ^ 12 == a / 2 ^ 12)) ≡ false → q ≡ p → vpn * 2 ^ 12 ≢ a
  elsewhere q vpn miss own = λ (e : ◌≡◌ {A = ℕ} (vpn * 2 ^ 12) a).
      let no : true ≡ false = sym (ap₂ (λ (x y : Bool). x && y) (ap (λ (n : ℕ). n == p) own ∙ itself p) (ap (λ (n : ℕ). n / 2 ^ 12 == a / 2 ^ 12) e ∙ itself (a / 2 ^ 12))) ∙ miss in absurd cc

  -- an entry is put, and its word
  pub put_holds : (grant : Grant) → word_of_grant g (Some grant) < 2 ^ 32 → has_place t p (region_of a) ≡ true
      → WordsHold (tables.with_entry memory t p a (word_of_grant g (Some grant))) (opened t p (region_of a)) (with_grant g p a grant)
  put_holds grant small room = record {
    words = λ q vpn live user. put_words memory t p a (word_of_grant g (Some grant)) q (vpn * 2 ^ 12) are size small room empty
        ∙ elim (cases_Bool ((q == p) && (vpn * 2 ^ 12 / 2 ^ 12 == a / 2 ^ 12))) [
          | inl hit ↦
              let at = at_address q vpn hit in
              let there : entry_at (with_entry g.table p a grant) q (vpn * 2 ^ 12) ≡ Some grant =
              ap₂ (λ (x y : ℕ). entry_at (with_entry g.table p a grant) x y) at.0 at.1 ∙ (ap (λ (es : List Entry). found es a) (entries_put g.table p a grant low high) ∙ found_put (entries_of g.table p) a grant) in
              rw hit (sym (same_word g (with_entry g.table p a grant) g.ended (Some grant)) ∙ sym (ap (word_of_grant (with_grant g p a grant)) there))
          | inr miss ↦
              let there : entry_at (with_entry g.table p a grant) q (vpn * 2 ^ 12) ≡ entry_at g.table q (vpn * 2 ^ 12) = entry_at-with_entry g.table p a grant q (vpn * 2 ^ 12) low live (elsewhere q vpn miss) in
              rw miss (k.words q vpn live user ∙ (sym (same_word g (with_entry g.table p a grant) g.ended (entry_at g.table q (vpn * 2 ^ 12))) ∙ sym (ap (word_of_grant (with_grant g p a grant)) there)))
        ];
    regions = λ q s live. opened_some t p (region_of a) q s are room ∙ elim (cases_eq q p) [
      | inl own ↦
          ap (λ (b : Bool). (b && (region_of a == s)) || is_some (region_place t q s)) (ap (λ (n : ℕ). n == p) own ∙ itself p)
          ∙ (ap (λ (b : Bool). (region_of a == s) || b) (k.regions q s live ∙ ap (λ (n : ℕ). used s (entries_of g.table n)) own)
          ∙ (sym (used_put s (entries_of g.table p) a grant) ∙ sym (ap (used s) (ap (entries_of (with_entry g.table p a grant)) own ∙ entries_put g.table p a grant low high))))
      | inr foreign ↦
          ap (λ (b : Bool). (b && (region_of a == s)) || is_some (region_place t q s)) (let e : (q == p) ≡ false = grind (arith, nat_tests) in e)
          ∙ (k.regions q s live ∙ sym (ap (used s) (foreign_row g.table p q (put (entries_of g.table p) a grant) low live foreign)))
    ];
    distinct = opened_distinct t p (region_of a) are room k.distinct;
    same = opened_length ∙ (k.same ∙ sym (length-set g.table (p - 1) (put (entries_of g.table p) a grant)));
  }
    where
      opened_length : length (opened t p (region_of a)) ≡ length t
      opened_length = elim (opens t p (region_of a) room) [
        | inl old ↦ ap length (opened_old t p (region_of a) old.0 old.1)
        | inr new ↦ ap length (opened_new t p (region_of a) new.1.0 new.0 new.1.1) ∙ length-set t (p - 1) (slice_set (places_of t p) new.1.0 (Some (region_of a)))
      ]

  -- Removed.

  abbrev less : GrantsState
  less = erased_grant g p a

  gone : entry_at (erased_entry g.table p a) p a ≡ None
  gone = ap (λ (es : List Entry). found es a) (entries_gone g.table p a low high) ∙ found_gone (entries_of g.table p) a

  used_less : (q s : ℕ) → 0 < q → (q ≡ p → (region_of a == s) ≡ false) → used s (entries_of (erased_entry g.table p a) q) ≡ used s (entries_of g.table q)
  used_less q s live apart = elim (cases_eq q p) [
    | inl own ↦ ap (λ (n : ℕ). used s (entries_of (erased_entry g.table p a) n)) own ∙ (ap (used s) (entries_gone g.table p a low high) ∙ (used_gone s (entries_of g.table p) a (apart own) ∙ sym (ap (λ (n : ℕ). used s (entries_of g.table n)) own)))
    | inr foreign ↦ ap (used s) (foreign_row g.table p q (filter (λ (e : Entry). not (e.address == a)) (entries_of g.table p)) low live foreign)
  ]

  less_words : (q vpn : ℕ) → 0 < q → ((q == p) && (vpn * 2 ^ 12 / 2 ^ 12 == a / 2 ^ 12)) ≡ false → granted_word g q vpn ≡ granted_word less q vpn
  less_words q vpn live miss =
      sym (same_word g (erased_entry g.table p a) g.ended (entry_at g.table q (vpn * 2 ^ 12))) ∙ sym (ap (word_of_grant less) (entry_at-erased_entry g.table p a q (vpn * 2 ^ 12) low live (elsewhere q vpn miss)))

  -- its region has other entries, and keeps its table
  keeps_table : used (region_of a) (entries_of (erased_entry g.table p a) p) ≡ true → WordsHold (tables.with_entry memory t p a 0) t less
  keeps_table stays =
      let used_first : used (region_of a) (entries_of g.table p) ≡ true = used_before g.table p a low high stays in
      let placed = some_is (region_place t p (region_of a)) (k.regions p (region_of a) low ∙ used_first) in
      let room : has_place t p (region_of a) ≡ true = ap (λ (o : Option ℕ). is_some o || is_some (free_place t p)) placed.1 in
      let same_places : opened t p (region_of a) ≡ t = opened_old t p (region_of a) placed.0 placed.1 in
      record {
        words = λ q vpn live user. ap (λ (u : Places). entry_word (tables.with_entry memory t p a 0) u q (vpn * 2 ^ 12)) (sym same_places)
            ∙ (put_words memory t p a 0 q (vpn * 2 ^ 12) are size (omega arith) room empty
            ∙ elim (cases_Bool ((q == p) && (vpn * 2 ^ 12 / 2 ^ 12 == a / 2 ^ 12))) [
              | inl hit ↦
                  let at = at_address q vpn hit in
                  rw hit (sym (ap (word_of_grant less) (ap₂ (λ (x y : ℕ). entry_at (erased_entry g.table p a) x y) at.0 at.1 ∙ gone)))
              | inr miss ↦ rw miss (k.words q vpn live user ∙ less_words q vpn live miss)
            ]);
        regions = λ q s live. elim (cases_Bool (region_of a == s)) [
          | inl here ↦ elim (cases_eq q p) [
            | inl own ↦
                let is : region_of a ≡ s = same_number (region_of a) s here in
                ap₂ (λ (x y : ℕ). is_some (region_place t x y)) own (sym is) ∙ (ap is_some placed.1 ∙ sym (ap₂ (λ (x y : ℕ). used y (entries_of (erased_entry g.table p a) x)) own (sym is) ∙ stays))
            | inr foreign ↦ k.regions q s live ∙ sym (used_less q s live (λ own. absurd (foreign own)))
          ]
          | inr other ↦ k.regions q s live ∙ sym (used_less q s live (λ own. other))
        ];
        distinct = k.distinct;
        same = k.same ∙ sym (length-set g.table (p - 1) (filter (λ (e : Entry). not (e.address == a)) (entries_of g.table p)));
      }

  -- it was the region's last, which is closed
  closes_table : used (region_of a) (entries_of (erased_entry g.table p a) p) ≡ false → WordsHold memory (closed t p (region_of a)) less
  closes_table last = record {
    words = λ q vpn live user. closed_words memory t p (region_of a) q (vpn * 2 ^ 12) empty
        ∙ elim (cases_Bool ((q == p) && (region_of (vpn * 2 ^ 12) == region_of a))) [
          | inl hit ↦
              let both = both_true (q == p) (region_of (vpn * 2 ^ 12) == region_of a) hit in
              let none : entry_at (erased_entry g.table p a) q (vpn * 2 ^ 12) ≡ None =
              ap (λ (n : ℕ). entry_at (erased_entry g.table p a) n (vpn * 2 ^ 12)) (same_number q p both.0) ∙ none_found (entries_of (erased_entry g.table p a) p) (vpn * 2 ^ 12) (region_of a) last (same_number (region_of (vpn * 2 ^ 12)) (region_of a) both.1) in
              rw hit (sym (ap (word_of_grant less) none))
          | inr miss ↦ rw miss (k.words q vpn live user ∙ less_words q vpn live (outside q vpn miss))
        ];
    regions = λ q s live. closed_some t p (region_of a) q s ∙ elim (cases_Bool ((q == p) && (region_of a == s))) [
      | inl hit ↦
          let both = both_true (q == p) (region_of a == s) hit in
          rw hit (sym (ap₂ (λ (x y : ℕ). used y (entries_of (erased_entry g.table p a) x)) (same_number q p both.0) (sym (same_number (region_of a) s both.1)) ∙ last))
      | inr miss ↦ rw miss (k.regions q s live ∙ sym (used_less q s live (λ own. other_region q s own miss)))
    ];
    distinct = closed_distinct t p (region_of a) low (subst (λ (n : ℕ). p ≤ n) (sym k.same) high) k.distinct;
    same = closed_length ∙ (k.same ∙ sym (length-set g.table (p - 1) (filter (λ (e : Entry). not (e.address == a)) (entries_of g.table p))));
  }
    where
      other_region : (q s : ℕ) → q ≡ p → ((q == p) && (region_of a == s)) ≡ false → (region_of a == s) ≡ false
      other_region q s own miss = sym (ap (λ (b : Bool). b && (region_of a == s)) (ap (λ (n : ℕ). n == p) own ∙ itself p)) ∙ miss

      outside : (q vpn : ℕ) → ((q == p) && (region_of (vpn * 2 ^ 12) == region_of a)) ≡ false → ((q == p) && (vpn * 2 ^ 12 / 2 ^ 12 == a / 2 ^ 12)) ≡ false
      outside q vpn miss = elim (cases_Bool ((q == p) && (vpn * 2 ^ 12 / 2 ^ 12 == a / 2 ^ 12))) [
        | inl hit ↦ (let at = at_address q vpn hit in let no : true ≡ false = sym (ap₂ (λ (x y : Bool). x && y) (ap (λ (n : ℕ). n == p) at.0 ∙ itself p) (ap (λ (n : ℕ). region_of n == region_of a) at.1 ∙ itself (region_of a))) ∙ miss in absurd cc)
        | inr apart ↦ apart
      ]

      closed_length : length (closed t p (region_of a)) ≡ length t
      closed_length = elim (cases_Bool (p == 0)) [
        | inl none ↦ ap (λ (b : Bool). length (cond b t (slice_set t (p - 1) (map (freed (region_of a)) (places_of t p))))) none
        | inr some ↦ ap (λ (b : Bool). length (cond b t (slice_set t (p - 1) (map (freed (region_of a)) (places_of t p))))) some ∙ length-set t (p - 1) (map (freed (region_of a)) (places_of t p))
      ]

  pub removed_holds : WordsHold (memory_without memory t g p a) (places_without t g p a) less
  removed_holds = elim (cases_Bool (is_used less p (region_of a))) [
    | inl stays ↦ rw stays (keeps_table stays)
    | inr last ↦ rw last (closes_table last)
  ]
