-- Places of processes: who has one, whose frame it is, and how places change.
use Rattle.std.proofs.Common.{◌≡◌, ◌≢◌, ℕ, zero, suc, ◌+◌, ◌-◌, ◌<◌, ◌≤◌, Bool, true, false, cond, List, [], ◌∷◌, length, set, map, get_or, replicate, refl, sym, ap, ap₂, ◌∙◌, arith, inl, inr, length-set}
use Rattle.std.specs.List.{position_or_len}
use Rattle.std.specs.Prelude.{Some, None, Option, slice_set, slice_index_or, position, nat_lt, ◌==◌, not}
use Rattle.std.proofs.lemmas.Bool.{cases_eq, cases_Bool}
use Rattle.std.proofs.lemmas.Bool.Decides.{nat_tests}
use Rattle.std.proofs.lemmas.List.{get_or-set_same, get_or-set_other, length-map, get_or_past, set_past, length-replicate, get_or-replicate}
use Rattle.std.proofs.lemmas.List.Elements.{All-set, All-replicate}
use Rattle.std.proofs.lemmas.List.Quantifiers.{position-Some}
use Rattle.std.proofs.lemmas.List.Folds.{position_or_len-set}
use Rattle.std.proofs.lemmas.List.Sums.{prefix_len-le-length}
use Rattle.ds_tables.specs.Places.{Places, ArePlaces, holds, places_of, region_place, table_frame, frame_of_place, page_of_table}
use Rattle.ds_tables.specs.Inner.Places.{is_free, freed, free_place, with_place, closed}

-- Who has places.

pub places_at : (t : Places) (p : ℕ) → 0 < p → places_of t p ≡ slice_index_or t (p - 1) []
places_at t p some = let e : (p == 0) ≡ false = grind (arith, nat_tests) in ap (λ (b : Bool). cond b [] (slice_index_or t (p - 1) [])) e

pub no_places : (t : Places) (p : ℕ) → p ≡ 0 → places_of t p ≡ []
no_places t p none = let e : (p == 0) ≡ true = grind (arith, nat_tests) in ap (λ (b : Bool). cond b [] (slice_index_or t (p - 1) [])) e

nothing : (xs : List (Option ℕ)) → xs ≡ [] → 0 < length xs → ⊥
nothing xs e some = let none : length xs ≡ 0 = ap length e in absurd (omega arith)

-- who has a place is a process
pub is_process : (t : Places) (p : ℕ) → 0 < length (places_of t p) → (0 < p) × (p ≤ length t)
is_process t p some = elim (cases_eq p 0) [
  | inl none ↦ absurd (nothing (places_of t p) (no_places t p none) some)
  | inr other ↦
      let low : 0 < p = omega arith in
      elim (cases_Bool (nat_lt (p - 1) (length t))) [
        | inl within ↦ let below : p - 1 < length t = grind (arith, nat_tests) in (low, (omega arith))
        | inr past ↦
            let above : length t ≤ p - 1 = grind (arith, nat_tests) in
            absurd (nothing (places_of t p) (places_at t p low ∙ get_or_past t (p - 1) [] above) some)
      ]
]

pub four_places : (t : Places) (p : ℕ) → ArePlaces t → 0 < p → p ≤ length t → length (places_of t p) ≡ 4
four_places t p k low high = ap length (places_at t p low) ∙ k.four (p - 1) [] (omega arith)

pub few_places : (t : Places) (p : ℕ) → ArePlaces t → length (places_of t p) ≤ 4
few_places t p k = elim (cases_Bool (nat_lt 0 (length (places_of t p)))) [
  | inl some ↦
      let have : 0 < length (places_of t p) = grind (arith, nat_tests) in
      let who = is_process t p have in
      let four = four_places t p k who.0 who.1 in
      omega arith
  | inr none ↦ let most : length (places_of t p) ≤ 0 = grind (arith, nat_tests) in omega arith
]

-- a place that has a region's table
pub record IsPlace (t : Places) (p region place : ℕ) : Type 0 where
  pub low : 0 < p
  pub high : p ≤ length t
  pub few : p ≤ 100
  pub within : place < 4
  pub held : get_or (places_of t p) place None ≡ Some region

pub is_place : (t : Places) (p region place : ℕ) → ArePlaces t → region_place t p region ≡ Some place → IsPlace t p region place
is_place t p region place k at =
    let there = position-Some (holds region) (places_of t p) place None at in
    let below = there.0 in
    let who = is_process t p (omega arith) in
    let four = four_places t p k who.0 who.1 in
    let most = k.few in
    let high = who.1 in
    record { low = who.0; high = who.1; few = omega arith; within = omega arith; held = by_test (get_or (places_of t p) place None) there.1 }
  where
    by_test : (o : Option ℕ) → holds region o ≡ true → o ≡ Some region
    by_test None e = absurd cc
    by_test (Some q) e = ap (λ (n : ℕ). Some n) (let same : q ≡ region = grind (arith, nat_tests) in same)

-- a place where no table stands
pub record IsFree (t : Places) (p place : ℕ) : Type 0 where
  pub low : 0 < p
  pub high : p ≤ length t
  pub few : p ≤ 100
  pub within : place < 4
  pub held : get_or (places_of t p) place None ≡ None

pub is_free_place : (t : Places) (p place : ℕ) → ArePlaces t → free_place t p ≡ Some place → IsFree t p place
is_free_place t p place k at =
    let there = position-Some is_free (places_of t p) place None at in
    let below = there.0 in
    let who = is_process t p (omega arith) in
    let four = four_places t p k who.0 who.1 in
    let most = k.few in
    let high = who.1 in
    record { low = who.0; high = who.1; few = omega arith; within = omega arith; held = by_test (get_or (places_of t p) place None) there.1 }
  where
    by_test : (o : Option ℕ) → is_free o ≡ true → o ≡ None
    by_test None e = refl
    by_test (Some q) e = absurd cc

-- Whose frame it is.

some_alike : (x y : ℕ) → ◌≡◌ {A = Option ℕ} (Some x) (Some y) → x ≡ y
some_alike x y e = cc

none_some : (x : ℕ) → ◌≡◌ {A = Option ℕ} None (Some x) → ⊥
none_some x e = absurd cc

-- the frame of a place is that of no other process, and of no other region
pub one_region : (t : Places) (p q r s i : ℕ) (o : Option ℕ) → ArePlaces t → IsPlace t p r i → region_place t q s ≡ o → frame_of_place q o ≡ table_frame p i → (q ≡ p) × (s ≡ r)
one_region t p q r s i None k here at e = absurd (omega arith)
one_region t p q r s i (Some j) k here at e =
    let there = is_place t q s j k at in
    let low = here.low in
    let low_q = there.low in
    let small = here.within in
    let small_q = there.within in
    let owner : q ≡ p = omega arith in
    let place : j ≡ i = omega arith in
    let same : get_or (places_of t q) j None ≡ get_or (places_of t p) i None = ap₂ (λ (x y : ℕ). get_or (places_of t x) y None) owner place in
    (owner, some_alike s r (sym there.held ∙ (same ∙ here.held)))

-- the frame of a place where no table stands is that of no table
pub unused_frame : (t : Places) (p q s i : ℕ) (o : Option ℕ) → ArePlaces t → IsFree t p i → region_place t q s ≡ o → frame_of_place q o ≢ table_frame p i
unused_frame t p q s i None k here at = λ (e : ◌≡◌ {A = ℕ} 1 (table_frame p i)). omega arith
unused_frame t p q s i (Some j) k here at = λ (e : ◌≡◌ {A = ℕ} (table_frame q j) (table_frame p i)).
    let there = is_place t q s j k at in
    let low = here.low in
    let low_q = there.low in
    let small = here.within in
    let small_q = there.within in
    let owner : q ≡ p = omega arith in
    let place : j ≡ i = omega arith in
    let same : get_or (places_of t q) j None ≡ get_or (places_of t p) i None = ap₂ (λ (x y : ℕ). get_or (places_of t x) y None) owner place in
    none_some s (sym here.held ∙ (sym same ∙ there.held))

-- A table that is new.

itself : (r : ℕ) → (r == r) ≡ true
itself r = grind (arith, nat_tests)

head_is_other : (b : Bool) (n m : ℕ) → cond (not b) (1 + n) 0 ≡ suc m → (b ≡ false) × (n ≡ m)
head_is_other true n m e = absurd (omega arith)
head_is_other false n m e = (refl, (omega arith))

-- in a list without the region, the place that takes it is the first that holds it
opens : (r : ℕ) (xs : List (Option ℕ)) (k : ℕ) → position_or_len (holds r) xs ≡ length xs → k < length xs → position_or_len (holds r) (set xs k (Some r)) ≡ k
opens r [] k none within = absurd (omega arith)
opens r (x ∷ xs) zero none within = ap (λ (b : Bool). cond (not b) (1 + position_or_len (holds r) xs) 0) (itself r)
opens r (x ∷ xs) (suc k) none within =
    let h = head_is_other (holds r x) (position_or_len (holds r) xs) (length xs) none in
    let rest : position_or_len (holds r) (set xs k (Some r)) ≡ k = opens r xs k h.1 (omega arith) in
    let next : 1 + position_or_len (holds r) (set xs k (Some r)) ≡ suc k = omega arith in
    ap (λ (b : Bool). cond (not b) (1 + position_or_len (holds r) (set xs k (Some r))) 0) h.0 ∙ next

as_place : (n m : ℕ) → n < m → cond (nat_lt n m) (Some n) None ≡ Some n
as_place n m below = let e : nat_lt n m ≡ true = grind (arith, nat_tests) in ap (λ (b : Bool). cond b (Some n) None) e

past_end : (n m : ℕ) → m ≤ n → cond (nat_lt n m) (Some n) None ≡ None
past_end n m above = let e : nat_lt n m ≡ false = grind (arith, nat_tests) in ap (λ (b : Bool). cond b (Some n) None) e

no_place : (n m : ℕ) → cond (nat_lt n m) (Some n) None ≡ None → m ≤ n
no_place n m e = elim (cases_Bool (nat_lt n m)) [
  | inl below ↦ absurd (none_some n (sym e ∙ ap (λ (b : Bool). cond b (Some n) None) below))
  | inr not_below ↦ grind (arith, nat_tests)
]

opened_place : (r : ℕ) (xs : List (Option ℕ)) (k : ℕ) → position (holds r) xs ≡ None → k < length xs → position (holds r) (set xs k (Some r)) ≡ Some k
opened_place r xs k none within =
    let whole = no_place (position_or_len (holds r) xs) (length xs) none in
    let most : position_or_len (holds r) xs ≤ length xs = prefix_len-le-length (λ (o : Option ℕ). not (holds r o)) xs in
    let at = opens r xs k (omega arith) within in
    let size = length-set xs k (Some r) in
    as_place (position_or_len (holds r) (set xs k (Some r))) (length (set xs k (Some r))) (omega arith) ∙ ap (λ (n : ℕ). Some n) at

-- the places of other regions stay
other_place : (r s : ℕ) (xs : List (Option ℕ)) (k : ℕ) → s ≢ r → get_or xs k None ≡ None → position (holds s) (set xs k (Some r)) ≡ position (holds s) xs
other_place r s xs k apart free =
    let test : (r == s) ≡ false = grind (arith, nat_tests) in
    let same : holds s (Some r) ≡ holds s (get_or xs k None) = test ∙ sym (ap (holds s) free) in
    ap₂ (λ (n m : ℕ). cond (nat_lt n m) (Some n) None) (position_or_len-set (holds s) xs k (Some r) None same) (length-set xs k (Some r))

-- the places of the process that gets a table
own_places : (t : Places) (p k r : ℕ) → IsFree t p k → places_of (with_place t p k r) p ≡ slice_set (places_of t p) k (Some r)
own_places t p k r free = let low = free.low in let high = free.high in places_at (with_place t p k r) p free.low ∙ get_or-set_same t (p - 1) (slice_set (places_of t p) k (Some r)) [] (omega arith)

-- the places of the others
foreign_places : (t : Places) (p q : ℕ) (row : List (Option ℕ)) → 0 < p → q ≢ p → places_of (slice_set t (p - 1) row) q ≡ places_of t q
foreign_places t p q row low apart = elim (cases_eq q 0) [
  | inl none ↦ no_places (slice_set t (p - 1) row) q none ∙ sym (no_places t q none)
  | inr some ↦
      places_at (slice_set t (p - 1) row) q (omega arith)
      ∙ get_or-set_other t (p - 1) (q - 1) row [] (λ (e : ◌≡◌ {A = ℕ} (q - 1) (p - 1)). apart (omega arith))
      ∙ sym (places_at t q (omega arith))
]

-- a region that had no table has the place
pub region_place-new : (t : Places) (p k r : ℕ) → ArePlaces t → IsFree t p k → region_place t p r ≡ None → region_place (with_place t p k r) p r ≡ Some k
region_place-new t p k r are free none =
    let four = four_places t p are free.low free.high in
    let small = free.within in
    ap (position (holds r)) (own_places t p k r free) ∙ opened_place r (places_of t p) k none (omega arith)

-- each other region keeps its place
pub region_place-other : (t : Places) (p q k r s : ℕ) → IsFree t p k → (q ≡ p → s ≡ r → ⊥) → region_place (with_place t p k r) q s ≡ region_place t q s
region_place-other t p q k r s free apart = elim (cases_eq q p) [
  | inl own ↦ rw own (ap (position (holds s)) (own_places t p k r free) ∙ other_place r s (places_of t p) k (λ (e : ◌≡◌ {A = ℕ} s r). apart own e) free.held)
  | inr foreign ↦ ap (position (holds s)) (foreign_places t p q (slice_set (places_of t p) k (Some r)) free.low foreign)
]

pub placed : (t : Places) (p k r : ℕ) → ArePlaces t → 0 < p → p ≤ length t → ArePlaces (with_place t p k r)
placed t p k r are low high =
    let size = length-set t (p - 1) (slice_set (places_of t p) k (Some r)) in
    let few = are.few in
    let four = four_places t p are low high in
    record {
      few = omega arith;
      four = All-set (λ places. length places ≡ 4) t (p - 1) (slice_set (places_of t p) k (Some r)) (length-set (places_of t p) k (Some r) ∙ four) are.four;
    }

-- nobody has a table
pub none_placed : (n : ℕ) → n ≤ 100 → ArePlaces (replicate n (replicate 4 None))
none_placed n few =
    let size = length-replicate {A = List (Option ℕ)} n (replicate 4 None) in
    record { few = omega arith; four = All-replicate (λ places. length places ≡ 4) n (replicate 4 None) refl }

region_place-none : (n p r : ℕ) → region_place (replicate n (replicate 4 None)) p r ≡ None
region_place-none n p r = elim (cases_eq p 0) [
  | inl none ↦ ap (position (holds r)) (no_places (replicate n (replicate 4 None)) p none)
  | inr some ↦
      ap (position (holds r)) (places_at (replicate n (replicate 4 None)) p (omega arith))
      ∙ elim (cases_Bool (nat_lt (p - 1) n)) [
        | inl within ↦ ap (position (holds r)) (get_or-replicate {A = List (Option ℕ)} n (p - 1) (replicate 4 None) [] (let below : p - 1 < n = grind (arith, nat_tests) in below))
        | inr past ↦
            let size = length-replicate {A = List (Option ℕ)} n (replicate 4 None) in
            let above : n ≤ p - 1 = grind (arith, nat_tests) in
            ap (position (holds r)) (get_or_past (replicate n (replicate 4 None)) (p - 1) [] (omega arith))
      ]
]

pub page_of_table-none : (n p r : ℕ) → page_of_table (replicate n (replicate 4 None)) p r ≡ 1
page_of_table-none n p r = ap (frame_of_place p) (region_place-none n p r)

-- A table that goes.

gone_from : (r : ℕ) (xs : List (Option ℕ)) → position_or_len (holds r) (map (freed r) xs) ≡ length (map (freed r) xs)
gone_from r [] = refl
gone_from r (x ∷ xs) =
    let e : holds r (freed r x) ≡ false = not_held r x in
    let others = gone_from r xs in
    let rest : 1 + position_or_len (holds r) (map (freed r) xs) ≡ suc (length (map (freed r) xs)) = omega arith in
    ap (λ (b : Bool). cond (not b) (1 + position_or_len (holds r) (map (freed r) xs)) 0) e ∙ rest
  where
    not_held : (r : ℕ) (o : Option ℕ) → holds r (freed r o) ≡ false
    not_held r None = refl
    not_held r (Some q) = elim (cases_Bool (q == r)) [
      | inl same ↦ ap (λ (b : Bool). holds r (cond b None (Some q))) same
      | inr other ↦ ap (λ (b : Bool). holds r (cond b None (Some q))) other ∙ other
    ]

left_alone : (r s : ℕ) (xs : List (Option ℕ)) → s ≢ r → position_or_len (holds s) (map (freed r) xs) ≡ position_or_len (holds s) xs
left_alone r s [] apart = refl
left_alone r s (x ∷ xs) apart =
    ap₂ (λ (b : Bool) (n : ℕ). cond (not b) (1 + n) 0) (as_held r s x apart) (left_alone r s xs apart)
  where
    as_held : (r s : ℕ) (o : Option ℕ) → s ≢ r → holds s (freed r o) ≡ holds s o
    as_held r s None apart = refl
    as_held r s (Some q) apart = elim (cases_Bool (q == r)) [
      | inl same ↦
          let other : (q == s) ≡ false = grind (arith, nat_tests) in
          ap (λ (b : Bool). holds s (cond b None (Some q))) same ∙ sym other
      | inr other ↦ ap (λ (b : Bool). holds s (cond b None (Some q))) other
    ]

pub closed_row : (t : Places) (p r : ℕ) → 0 < p → closed t p r ≡ slice_set t (p - 1) (map (freed r) (places_of t p))
closed_row t p r some = let e : (p == 0) ≡ false = grind (arith, nat_tests) in ap (λ (b : Bool). cond b t (slice_set t (p - 1) (map (freed r) (places_of t p)))) e

closed_same : (t : Places) (p r : ℕ) → p ≡ 0 → closed t p r ≡ t
closed_same t p r none = let e : (p == 0) ≡ true = grind (arith, nat_tests) in ap (λ (b : Bool). cond b t (slice_set t (p - 1) (map (freed r) (places_of t p)))) e

-- who has not four places is no process, and has nothing to close
pub closed_short : (t : Places) (p r : ℕ) → ArePlaces t → length (places_of t p) < 4 → closed t p r ≡ t
closed_short t p r are few = elim (cases_eq p 0) [
  | inl none ↦ closed_same t p r none
  | inr some ↦ closed_row t p r (omega arith) ∙ elim (cases_Bool (nat_lt (p - 1) (length t))) [
    | inl within ↦
        let below : p - 1 < length t = grind (arith, nat_tests) in
        let four = four_places t p are (omega arith) (omega arith) in
        absurd (omega arith)
    | inr past ↦ set_past t (p - 1) (map (freed r) (places_of t p)) (let above : length t ≤ p - 1 = grind (arith, nat_tests) in above)
  ]
]

-- who has four is one
pub four_exactly : (t : Places) (p : ℕ) → ArePlaces t → 4 ≤ length (places_of t p) → (length (places_of t p) ≡ 4) × (0 < p) × (p ≤ length t)
four_exactly t p are many =
    let who = is_process t p (omega arith) in
    let most = few_places t p are in
    ((omega arith), who.0, who.1)

pub row_placed : (t : Places) (i : ℕ) (row : List (Option ℕ)) → ArePlaces t → length row ≡ 4 → ArePlaces (slice_set t i row)
row_placed t i row are four =
    let size = length-set t i row in
    let few = are.few in
    record { few = omega arith; four = All-set (λ places. length places ≡ 4) t i row four are.four }

-- the places of the process, the region's freed
closed_own : (t : Places) (p r : ℕ) → places_of (closed t p r) p ≡ map (freed r) (places_of t p)
closed_own t p r = elim (cases_eq p 0) [
  | inl none ↦ no_places (closed t p r) p none ∙ sym (ap (map (freed r)) (no_places t p none))
  | inr some ↦
      let low : 0 < p = omega arith in
      ap (λ (u : Places). places_of u p) (closed_row t p r low) ∙ places_at (slice_set t (p - 1) (map (freed r) (places_of t p))) p low
      ∙ elim (cases_Bool (nat_lt (p - 1) (length t))) [
        | inl within ↦ get_or-set_same t (p - 1) (map (freed r) (places_of t p)) [] (let below : p - 1 < length t = grind (arith, nat_tests) in below)
        | inr past ↦
            let above : length t ≤ p - 1 = grind (arith, nat_tests) in
            let size = length-set t (p - 1) (map (freed r) (places_of t p)) in
            get_or_past (slice_set t (p - 1) (map (freed r) (places_of t p))) (p - 1) [] (omega arith)
            ∙ sym (ap (map (freed r)) (places_at t p low ∙ get_or_past t (p - 1) [] above))
      ]
]

-- a region that was closed has no place
pub region_place-closed : (t : Places) (p r : ℕ) → region_place (closed t p r) p r ≡ None
region_place-closed t p r =
    let gone = gone_from r (places_of t p) in
    ap (position (holds r)) (closed_own t p r) ∙ past_end (position_or_len (holds r) (map (freed r) (places_of t p))) (length (map (freed r) (places_of t p))) (omega arith)

-- each other region keeps its own
pub region_place-kept : (t : Places) (p q r s : ℕ) → (q ≡ p → s ≡ r → ⊥) → region_place (closed t p r) q s ≡ region_place t q s
region_place-kept t p q r s apart = elim (cases_eq q p) [
  | inl own ↦ rw own (ap (position (holds s)) (closed_own t p r)
      ∙ ap₂ (λ (n m : ℕ). cond (nat_lt n m) (Some n) None) (left_alone r s (places_of t p) (λ (e : ◌≡◌ {A = ℕ} s r). apart own e)) (length-map (places_of t p) (freed r)))
  | inr foreign ↦ elim (cases_eq p 0) [
    | inl none ↦ ap (λ (u : Places). region_place u q s) (closed_same t p r none)
    | inr some ↦
        let low : 0 < p = omega arith in
        ap (λ (u : Places). region_place u q s) (closed_row t p r low) ∙ ap (position (holds s)) (foreign_places t p q (map (freed r) (places_of t p)) low foreign)
  ]
]
