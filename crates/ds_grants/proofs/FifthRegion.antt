-- A fifth region is one for which there is no place.
use Rattle.std.proofs.Common.{◌≡◌, ℕ, suc, ◌+◌, ◌≤◌, ◌==◌, Bool, true, false, cond, not, List, [], ◌∷◌, length, filter, map, Option, Some, None, refl, sym, ap, ap₂, subst, ◌∙◌, arith, inl, inr}
use Rattle.std.specs.List.{list_any, position, position_or_len}
use Rattle.std.specs.Prelude.{◌||◌, nat_lt, is_some}
use Rattle.std.proofs.lemmas.Bool.{cases_Bool}
use Rattle.std.proofs.lemmas.Bool.Decides.{nat_tests}
use Rattle.ds_policy.specs.declared.grant.Entry.{Entry}
use Rattle.ds_policy.specs.Grants.{region, count_distinct}
use Rattle.ds_tables.specs.Places.{Places, holds, places_of, region_place, region_of}
use Rattle.ds_tables.specs.Inner.Places.{is_free, free_place, has_place}
use Rattle.ds_grants.specs.Words.{regions_taken}

abbrev pub has : ℕ → List ℕ → Bool
has a xs = list_any (λ (b : ℕ). b == a) xs

abbrev without : ℕ → List ℕ → List ℕ
without a xs = filter (λ (b : ℕ). not (b == a)) xs

pub same_number : (a b : ℕ) → (a == b) ≡ true → a ≡ b
same_number a b e = grind (arith, nat_tests)

turned : (a b : ℕ) → (a == b) ≡ false → (b == a) ≡ false
turned a b e = grind (arith, nat_tests)

pub itself : (a : ℕ) → (a == a) ≡ true
itself a = grind (arith, nat_tests)

pub either : (a b : Bool) → (a || b) ≡ false → (a ≡ false) × (b ≡ false)
either true b e = absurd cc
either false b e = (refl, e)

later_one : (a b : Bool) → a ≡ false → (a || b) ≡ true → b ≡ true
later_one a b e f = sym (ap (λ (x : Bool). x || b) e) ∙ f

or_true : (a b : Bool) → b ≡ true → (a || b) ≡ true
or_true true b e = refl
or_true false b e = e

without_none : (a : ℕ) (xs : List ℕ) → has a xs ≡ false → without a xs ≡ xs
without_none a [] e = refl
without_none a (x ∷ xs) e =
    let both = either (x == a) (has a xs) e in
    ap (λ (b : Bool). cond (not b) (x ∷ without a xs) (without a xs)) both.0 ∙ ap (λ (l : List ℕ). x ∷ l) (without_none a xs both.1)

has_without : (u a : ℕ) (xs : List ℕ) → (u == a) ≡ false → has u (without a xs) ≡ has u xs
has_without u a [] apart = refl
has_without u a (x ∷ xs) apart = elim (cases_Bool (x == a)) [
  | inl here ↦
      let other : (x == u) ≡ false = (let is : x ≡ a = same_number x a here in subst (λ (n : ℕ). (n == u) ≡ false) (sym is) (turned u a apart)) in
      rw (here, other) (has_without u a xs apart)
  | inr there ↦ rw there (ap (λ (b : Bool). (x == u) || b) (has_without u a xs apart))
]

count_step : (x : ℕ) (xs : List ℕ) (b : Bool) → has x xs ≡ b → count_distinct (x ∷ xs) ≡ cond b (count_distinct xs) (count_distinct xs + 1)
count_step x xs b e = ap (λ (c : Bool). cond c (count_distinct xs) (count_distinct xs + 1)) e

count_without : (a : ℕ) (xs : List ℕ) → has a xs ≡ true → count_distinct xs ≡ count_distinct (without a xs) + 1
count_without a [] e = absurd cc
count_without a (x ∷ xs) e = elim (cases_Bool (x == a)) [
  | inl here ↦
      let is : x ≡ a = same_number x a here in
      let gone : without a (x ∷ xs) ≡ without a xs = rw here refl in
      elim (cases_Bool (has a xs)) [
        | inl in-rest ↦ count_step x xs true (ap (λ (n : ℕ). has n xs) is ∙ in-rest) ∙ (count_without a xs in-rest ∙ ap (λ (l : List ℕ). count_distinct l + 1) (sym gone))
        | inr out-rest ↦ count_step x xs false (ap (λ (n : ℕ). has n xs) is ∙ out-rest) ∙ ap (λ (l : List ℕ). count_distinct l + 1) (sym (gone ∙ without_none a xs out-rest))
      ]
  | inr other ↦
      let stays : without a (x ∷ xs) ≡ x ∷ without a xs = rw other refl in
      let rest : has a xs ≡ true = later_one (x == a) (has a xs) other e in
      let alike : has x (without a xs) ≡ has x xs = has_without x a xs other in
      let fewer : count_distinct xs ≡ count_distinct (without a xs) + 1 = count_without a xs rest in
      elim (cases_Bool (has x xs)) [
        | inl in-rest ↦ count_step x xs true in-rest ∙ (fewer ∙ ap (λ (n : ℕ). n + 1) (sym (ap count_distinct stays ∙ count_step x (without a xs) true (alike ∙ in-rest))))
        | inr out-rest ↦ count_step x xs false out-rest ∙ (ap (λ (n : ℕ). n + 1) fewer ∙ ap (λ (n : ℕ). n + 1) (sym (ap count_distinct stays ∙ count_step x (without a xs) false (alike ∙ out-rest))))
      ]
]

-- fewer different numbers are in a list that is within another
pub subset : (ys xs : List ℕ) → ((a : ℕ) → has a ys ≡ true → has a xs ≡ true) → count_distinct ys ≤ count_distinct xs
subset [] xs sub = omega arith
subset (y ∷ ys) xs sub = elim (cases_Bool (has y ys)) [
  | inl again ↦
      let same = count_step y ys true again in
      let rest = subset ys xs (λ a e. sub a (or_true (y == a) (has a ys) e)) in
      subst (λ (n : ℕ). n ≤ count_distinct xs) (sym same) rest
  | inr new ↦
      let one_more = count_step y ys false new in
      let there : has y xs ≡ true = sub y (ap (λ (b : Bool). b || has y ys) (itself y)) in
      let fewer = count_without y xs there in
      let rest = subset ys (without y xs) (λ a e. has_without a y xs (apart a y ys e new) ∙ sub a (or_true (y == a) (has a ys) e)) in
      omega (arith, one_more, fewer, rest)
]
  where
    apart : (a y : ℕ) (ys : List ℕ) → has a ys ≡ true → has y ys ≡ false → (a == y) ≡ false
    apart a y ys e new = elim (cases_Bool (a == y)) [
      | inl is ↦ (let no : true ≡ false = sym e ∙ (ap (λ (n : ℕ). has n ys) (same_number a y is) ∙ new) in absurd cc)
      | inr other ↦ other
    ]

pub same_sets : (xs ys : List ℕ) → ((a : ℕ) → has a xs ≡ has a ys) → count_distinct xs ≡ count_distinct ys
same_sets xs ys same =
    let up = subset xs ys (λ a e. sym (same a) ∙ e) in
    let down = subset ys xs (λ a e. same a ∙ e) in
    omega (arith, up, down)

-- Places.

any_by_place : {A : Type 0} (f : A → Bool) (xs : List A) → nat_lt (position_or_len f xs) (length xs) ≡ list_any f xs
any_by_place f [] = refl
any_by_place f (x ∷ xs) =
    let rest = any_by_place f xs in
    elim (cases_Bool (f x)) [
      | inl here ↦ rw here (none_below (length xs))
      | inr there ↦ rw there (more (position_or_len f xs) (length xs) (list_any f xs) rest)
    ]
  where
    none_below : (m : ℕ) → nat_lt 0 (suc m) ≡ true
    none_below m = grind (arith, nat_tests)

    more : (n m : ℕ) (b : Bool) → nat_lt n m ≡ b → nat_lt (1 + n) (suc m) ≡ b
    more n m b e = same n m ∙ e
      where
        same : (n m : ℕ) → nat_lt (1 + n) (suc m) ≡ nat_lt n m
        same n m = elim (cases_Bool (nat_lt n m)) [
          | inl below ↦ (let this : nat_lt (1 + n) (suc m) ≡ true = grind (arith, nat_tests) in this ∙ sym below)
          | inr past ↦ (let this : nat_lt (1 + n) (suc m) ≡ false = grind (arith, nat_tests) in this ∙ sym past)
        ]

some_by_test : (n m : ℕ) → is_some (cond {A = Option ℕ} (nat_lt n m) (Some n) None) ≡ nat_lt n m
some_by_test n m = elim (cases_Bool (nat_lt n m)) [ inl below ↦ rw below refl | inr past ↦ rw past refl ]

found_by_test : {A : Type 0} (f : A → Bool) (xs : List A) → is_some (position f xs) ≡ list_any f xs
found_by_test f xs = some_by_test (position_or_len f xs) (length xs) ∙ any_by_place f xs

held_by_taken : (r : ℕ) (ps : List (Option ℕ)) → list_any (holds r) ps ≡ has r (regions_taken ps)
held_by_taken r [] = refl
held_by_taken r (None ∷ ps) = held_by_taken r ps
held_by_taken r (Some q ∷ ps) = ap (λ (b : Bool). (q == r) || b) (held_by_taken r ps)

-- a region has a table exactly where it is among those that places hold
pub placed_by_taken : (t : Places) (p r : ℕ) → is_some (region_place t p r) ≡ has r (regions_taken (places_of t p))
placed_by_taken t p r = found_by_test (holds r) (places_of t p) ∙ held_by_taken r (places_of t p)

few_taken : (ps : List (Option ℕ)) → length (regions_taken ps) ≤ length ps
few_taken [] = omega arith
few_taken (None ∷ ps) = let rest = few_taken ps in omega (arith, rest)
few_taken (Some q ∷ ps) = let rest = few_taken ps in omega (arith, rest)

free_by_taken : (ps : List (Option ℕ)) → list_any is_free ps ≡ nat_lt (length (regions_taken ps)) (length ps)
free_by_taken [] = refl
free_by_taken (None ∷ ps) = sym (room (length (regions_taken ps)) (length ps) (few_taken ps))
  where
    room : (n m : ℕ) → n ≤ m → nat_lt n (suc m) ≡ true
    room n m e = grind (arith, nat_tests)
free_by_taken (Some q ∷ ps) = free_by_taken ps ∙ more (length (regions_taken ps)) (length ps)
  where
    more : (n m : ℕ) → nat_lt n m ≡ nat_lt (suc n) (suc m)
    more n m = elim (cases_Bool (nat_lt n m)) [ inl e ↦ e ∙ sym (grind (arith, nat_tests)) | inr e ↦ e ∙ sym (grind (arith, nat_tests)) ]

-- the regions of entries
abbrev pub regions_of : List Entry → List ℕ
regions_of es = map (λ (e : Entry). region e.address) es

region_there : (a : ℕ) (es : List Entry) → has a (regions_of es) ≡ list_any (λ (e : Entry). region_of e.address == a) es
region_there a [] = refl
region_there a (e ∷ es) = ap (λ (b : Bool). (region e.address == a) || b) (region_there a es)

by_count : (n : ℕ) (there : Bool) → n ≤ 4 → nat_lt 4 (cond there n (n + 1)) ≡ not (there || nat_lt n 4)
by_count n true few = grind (arith, nat_tests)
by_count n false few = elim (cases_Bool (nat_lt n 4)) [ inl e ↦ rw e (grind (arith, nat_tests)) | inr e ↦ rw e (grind (arith, nat_tests)) ]

-- An entry would open a fifth region of a process exactly where there is no place for its region's table.
pub fifth_by_places : (t : Places) (p r : ℕ) (es : List Entry) → length (places_of t p) ≡ 4 → count_distinct (regions_taken (places_of t p)) ≡ length (regions_taken (places_of t p))
    → ((s : ℕ) → is_some (region_place t p s) ≡ list_any (λ (e : Entry). region_of e.address == s) es)
    → nat_lt 4 (count_distinct (r ∷ regions_of es)) ≡ not (has_place t p r)
fifth_by_places t p r es four distinct regions =
    let ps : List (Option ℕ) = places_of t p in
    let same : (a : ℕ) → has a (regions_of es) ≡ has a (regions_taken (places_of t p)) = λ a. region_there a es ∙ (sym (regions a) ∙ placed_by_taken t p a) in
    let few : length (regions_taken (places_of t p)) ≤ 4 = (let most = few_taken (places_of t p) in omega (arith, most, four)) in
    let count : count_distinct (r ∷ regions_of es) ≡ cond (has r (regions_taken (places_of t p))) (length (regions_taken (places_of t p))) (length (regions_taken (places_of t p)) + 1) =
    same_sets (r ∷ regions_of es) (r ∷ regions_taken (places_of t p)) (λ a. ap (λ (b : Bool). (r == a) || b) (same a))
    ∙ ap (λ (n : ℕ). cond (has r (regions_taken (places_of t p))) n (n + 1)) distinct in
    let free : is_some (free_place t p) ≡ nat_lt (length (regions_taken (places_of t p))) 4 =
    found_by_test is_free (places_of t p) ∙ (free_by_taken (places_of t p) ∙ ap (λ (n : ℕ). nat_lt (length (regions_taken (places_of t p))) n) four) in
    ap (λ (n : ℕ). nat_lt 4 n) count ∙ (by_count (length (regions_taken (places_of t p))) (has r (regions_taken (places_of t p))) few
    ∙ sym (ap₂ (λ (a b : Bool). not (a || b)) (placed_by_taken t p r) free))
