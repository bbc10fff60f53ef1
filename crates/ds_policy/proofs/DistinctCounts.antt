-- How many distinct numbers a list has, in whatever order.
use Rattle.std.proofs.Common.{◌≡◌, ◌∙◌, sym, subst, ap, refl, ℕ, Bool, true, false, ◌==◌, ◌||◌, List, [], ◌∷◌, ◌++◌, inl, inr, arith, append-nil}
use Rattle.std.specs.List.{list_any}
use Rattle.std.proofs.lemmas.Bool.{cases_Bool}
use Rattle.std.proofs.lemmas.Bool.Decides.{nat_tests}
use Rattle.ds_policy.specs.Grants.{count_distinct}

abbrev has : ℕ → List ℕ → Bool
has a xs = list_any (λ b. b == a) xs

has_insert : (u a : ℕ) (us vs : List ℕ) → has u (us ++ a ∷ vs) ≡ ((a == u) || has u (us ++ vs))
has_insert u a [] vs = refl
has_insert u a (x ∷ us) vs = elim (cases_Bool (x == u)) [
  | inl here ↦ elim (cases_Bool (a == u)) [ inl is ↦ rw (here, is) | inr other ↦ rw (here, other) ]
  | inr there ↦ rw there (has_insert u a us vs)
]

equal : (a b : ℕ) → (a == b) ≡ true → a ≡ b
equal a b h = grind (arith, nat_tests)

turned : (a b : ℕ) → (a == b) ≡ false → (b == a) ≡ false
turned a b h = grind (arith, nat_tests)

swapped : (a u : ℕ) (xs : List ℕ) → count_distinct (u ∷ a ∷ xs) ≡ count_distinct (a ∷ u ∷ xs)
swapped a u xs = elim (cases_Bool (a == u)) [
  | inl is ↦ subst (λ (b : ℕ). count_distinct (u ∷ b ∷ xs) ≡ count_distinct (b ∷ u ∷ xs)) (sym (equal a u is)) refl
  | inr other ↦ elim (cases_Bool (has u xs)) [
    | inl in-u ↦ elim (cases_Bool (has a xs)) [ inl in-a ↦ rw (other, turned a u other, in-u, in-a) | inr out-a ↦ rw (other, turned a u other, in-u, out-a) ]
    | inr out-u ↦ elim (cases_Bool (has a xs)) [ inl in-a ↦ rw (other, turned a u other, out-u, in-a) | inr out-a ↦ rw (other, turned a u other, out-u, out-a) ]
  ]
]

same_count : (u : ℕ) (xs ys : List ℕ) → has u xs ≡ has u ys → count_distinct xs ≡ count_distinct ys → count_distinct (u ∷ xs) ≡ count_distinct (u ∷ ys)
same_count u xs ys h e = rw (h, e)

-- where a number stands doesn't matter
pub count_insert : (a : ℕ) (us vs : List ℕ) → count_distinct (us ++ a ∷ vs) ≡ count_distinct (a ∷ us ++ vs)
count_insert a [] vs = refl
count_insert a (u ∷ us) vs = same_count u (us ++ a ∷ vs) (a ∷ us ++ vs) (has_insert u a us vs) (count_insert a us vs) ∙ swapped a u (us ++ vs)

pub count_last : (a : ℕ) (us : List ℕ) → count_distinct (us ++ a ∷ []) ≡ count_distinct (a ∷ us)
count_last a us = count_insert a us [] ∙ ap (λ xs. count_distinct (a ∷ xs)) (append-nil us)
