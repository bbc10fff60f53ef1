-- Which page a name is of, where pages come one by one.
use Rattle.std.proofs.Common.{◌≡◌, ◌∙◌, sym, ap, subst, refl, ℕ, ◌+◌, suc, Bool, true, false, bytes_eq, List, [], ◌∷◌, ◌++◌, length, Option, Some, None, is_some, option_map, Ok, Err, inl, inr, arith, if◌then◌else◌, nat_lt}
use Rattle.std.specs.List.{position, position_or_len, list_any}
use Rattle.std.proofs.lemmas.Bool.{cases_Bool}
use Rattle.std.proofs.lemmas.Bool.Decides.{nat_tests}
use Rattle.std.proofs.lemmas.List.Folds.{list_any-append}
use Rattle.std.proofs.lemmas.Slice.Eq.{bytes_eq-Decides}
use Rattle.toml.specs.Data.{Data}
use Rattle.ds_policy.specs.declared.cause.PageCause.TheVariants.{SameName}
use Rattle.ds_policy.specs.declared.policy.PolicyPage.{PolicyPage}
use Rattle.ds_policy.specs.Document.{is_among}
use Rattle.ds_policy.specs.PolicyParts.{page_named, page_of, new_page}
use Rattle.ds_policy.specs.Inner.Names.{held_number, AreNamed}
use Rattle.ds_policy.specs.declared.names.Names.{Names}

one_more : (k : ℕ) → 1 + k ≡ suc k
one_more k = omega arith

below_more : (n : ℕ) → nat_lt 0 (suc n) ≡ true
below_more n = grind (arith, nat_tests)

both_less : (k n : ℕ) → nat_lt k n ≡ true → nat_lt (1 + k) (suc n) ≡ true
both_less k n h = grind (arith, nat_tests)

both_not : (k n : ℕ) → nat_lt k n ≡ false → nat_lt (1 + k) (suc n) ≡ false
both_not k n h = grind (arith, nat_tests)

place_step : {X : Type 0} (p : X → Bool) (x : X) (xs : List X) → position p (x ∷ xs) ≡ (if p x then Some 0 else option_map suc (position p xs))
place_step p x xs = elim (cases_Bool (p x)) [
  | inl is ↦ rw (is, below_more (length xs)) refl
  | inr other ↦ rw other (elim (cases_Bool (nat_lt (position_or_len p xs) (length xs))) [
    | inl less ↦ rw (less, both_less (position_or_len p xs) (length xs) less) (ap Some (one_more (position_or_len p xs)))
    | inr not ↦ rw (not, both_not (position_or_len p xs) (length xs) not) refl
  ])
]

some_mapped : (o : Option ℕ) → is_some (option_map suc o) ≡ is_some o
some_mapped None = refl
some_mapped (Some n) = refl

-- there is a place where one passes
pub some_place : {X : Type 0} (p : X → Bool) (xs : List X) → is_some (position p xs) ≡ list_any p xs
some_place p [] = refl
some_place p (x ∷ xs) = ap is_some (place_step p x xs) ∙ elim (cases_Bool (p x)) [
  | inl is ↦ rw is refl
  | inr other ↦ rw other (some_mapped (position p xs) ∙ some_place p xs)
]

place_found : {X : Type 0} (p : X → Bool) (xs : List X) (y : X) → is_some (position p xs) ≡ false → p y ≡ true → position p (xs ++ y ∷ []) ≡ Some (length xs)
place_found p [] y none is = place_step p y [] ∙ rw is refl
place_found p (x ∷ xs) y none is = place_step p x (xs ++ y ∷ []) ∙ elim (cases_Bool (p x)) [
  | inl here ↦ let told = sym (ap is_some (place_step p x xs)) ∙ none in let now = rw here at told in cc
  | inr other ↦ let told = sym (ap is_some (place_step p x xs)) ∙ none in let now = rw other at told in
      rw other (ap (option_map suc) (place_found p xs y (sym (some_mapped (position p xs)) ∙ now) is))
]

place_other : {X : Type 0} (p : X → Bool) (xs : List X) (y : X) → p y ≡ false → position p (xs ++ y ∷ []) ≡ position p xs
place_other p [] y is = place_step p y [] ∙ rw is refl
place_other p (x ∷ xs) y is = place_step p x (xs ++ y ∷ []) ∙ ap (λ o. if p x then Some 0 else option_map suc o) (place_other p xs y is) ∙ sym (place_step p x xs)

place_kept : {X : Type 0} (p : X → Bool) (xs : List X) (y : X) → is_some (position p xs) ≡ true → position p (xs ++ y ∷ []) ≡ position p xs
place_kept p [] y some = cc
place_kept p (x ∷ xs) y some = place_step p x (xs ++ y ∷ []) ∙ (elim (cases_Bool (p x)) [
  | inl here ↦ rw here refl
  | inr other ↦ let told = sym (ap is_some (place_step p x xs)) ∙ some in let now = rw other at told in
      rw other (ap (option_map suc) (place_kept p xs y (sym (some_mapped (position p xs)) ∙ now)))
] ∙ sym (place_step p x xs))

-- a page of a new name
pub named_more : (pages : List PolicyPage) (page : PolicyPage) (name : List ℕ) → is_some (page_named pages page.name) ≡ false
    → page_named (pages ++ page ∷ []) name ≡ (if bytes_eq page.name name then Some (length pages) else page_named pages name)
named_more pages page name new = elim (cases_Bool (bytes_eq page.name name)) [
  | inl same ↦ rw same (place_found (λ (p : PolicyPage). bytes_eq p.name name) pages page (subst (λ n. is_some (page_named pages n) ≡ false) ((bytes_eq-Decides page.name name).0 same) new) same)
  | inr other ↦ rw other (place_other (λ (p : PolicyPage). bytes_eq p.name name) pages page other)
]

-- a page whose name an earlier one has
pub named_again : (pages : List PolicyPage) (page : PolicyPage) (name : List ℕ) → is_some (page_named pages page.name) ≡ true
    → page_named (pages ++ page ∷ []) name ≡ page_named pages name
named_again pages page name known = elim (cases_Bool (bytes_eq page.name name)) [
  | inl same ↦ place_kept (λ (p : PolicyPage). bytes_eq p.name name) pages page (subst (λ n. is_some (page_named pages n) ≡ true) ((bytes_eq-Decides page.name name).0 same) known)
  | inr other ↦ place_other (λ (p : PolicyPage). bytes_eq p.name name) pages page other
]

-- one more name
pub among_more : (names : List (List ℕ)) (name other : List ℕ) → is_among (names ++ name ∷ []) other ≡ (if bytes_eq name other then true else is_among names other)
among_more names name other = list_any-append (λ x. bytes_eq x other) names (name ∷ []) ∙ elim (cases_Bool (bytes_eq name other)) [
  | inl same ↦ rw same (elim (cases_Bool (is_among names other)) [ inl is ↦ rw is refl | inr new ↦ rw new refl ])
  | inr apart ↦ rw apart (elim (cases_Bool (is_among names other)) [ inl is ↦ rw is refl | inr new ↦ rw new refl ])
]

-- with the number of a page of a new name, the names are those of one page more
pub names_new : (m n : Names) (before : List PolicyPage) (page : PolicyPage) (name : List ℕ) (number : ℕ) → name ≡ page.name → number ≡ length before
    → AreNamed m before → is_some (held_number m name) ≡ false
    → ((other : List ℕ) → held_number n other ≡ (if bytes_eq name other then Some number else held_number m other))
    → AreNamed n (before ++ page ∷ [])
names_new m n before page name number e k held new h = λ other.
    h other
    ∙ ap (λ o. if bytes_eq name other then Some number else o) (held other)
    ∙ rw (e, k) (sym (named_more before page other (sym (ap is_some (held page.name)) ∙ (rw e at new))))

-- or those of one page more whose name may be held
pub names_more : (m n : Names) (before : List PolicyPage) (page : PolicyPage) (name : List ℕ) (number : ℕ) → name ≡ page.name → number ≡ length before
    → AreNamed m before
    → ((other : List ℕ) → held_number n other ≡ (if is_some (held_number m name) then held_number m other else if bytes_eq name other then Some number else held_number m other))
    → AreNamed n (before ++ page ∷ [])
names_more m n before page name number e k held h = elim (cases_Bool (is_some (held_number m name))) [
  | inl known ↦ λ other. (rw known at h other) ∙ held other ∙ sym (named_again before page other (sym (ap is_some (held page.name)) ∙ (rw e at known)))
  | inr new ↦ names_new m n before page name number e k held new (λ other. rw new at h other)
]

-- a page whose name is held
pub page_taken : (m : Names) (before : List PolicyPage) (d : Data) (page : PolicyPage) → AreNamed m before → page_of d ≡ Ok page → is_some (held_number m page.name) ≡ true
    → new_page before d ≡ Err SameName
unfolding new_page
page_taken m before d page held is taken =
    rw (is, sym (some_place (λ (q : PolicyPage). bytes_eq q.name page.name) before) ∙ sym (ap is_some (held page.name)) ∙ taken) refl

-- a page whose name is not
pub page_free : (m : Names) (before : List PolicyPage) (d : Data) (page : PolicyPage) → AreNamed m before → page_of d ≡ Ok page → is_some (held_number m page.name) ≡ false
    → new_page before d ≡ Ok page
unfolding new_page
page_free m before d page held is free =
    rw (is, sym (some_place (λ (q : PolicyPage). bytes_eq q.name page.name) before) ∙ sym (ap is_some (held page.name)) ∙ free) refl
