-- Where pages share a frame, another frame is free.
use Rattle.std.proofs.Common.{◌≡◌, ℕ, zero, suc, ◌+◌, ◌<◌, ◌≤◌, ◌⊎◌, List, [], ◌∷◌, length, refl, arith, inl, inr}
use Rattle.std.specs.Prelude.{slice_index}
use Rattle.std.proofs.lemmas.List.Sums.{sum_by-cons}
use Rattle.ds_grants.specs.Inner.Frames.{total}

-- a place that holds 0
abbrev pub HasZero : List ℕ → Type 0
HasZero xs = (g : ℕ) × (g < length xs) × (slice_index xs g ≡ 0)

further : (x : ℕ) (xs : List ℕ) → HasZero xs → HasZero (x ∷ xs)
further x xs h = let n = h.1 in (suc h.0, (omega arith), h.2)

-- all counts are the first and the others
pub sums : (x : ℕ) (xs : List ℕ) → total (x ∷ xs) ≡ x + total xs
sums x xs = sum_by-cons (λ (n : ℕ). n) x xs

-- a count of 0, or at least one for each place
none_or_one_each : (xs : List ℕ) → HasZero xs ⊎ (length xs ≤ total xs)
none_or_one_each [] = inr (omega arith)
none_or_one_each (zero ∷ xs) = inl (0, (omega arith), refl)
none_or_one_each (suc x ∷ xs) = elim (none_or_one_each xs) [ inl h ↦ inl (further (suc x) xs h) | inr h ↦ inr (let e = sums (suc x) xs in omega arith) ]

more_than_one_each : (xs : List ℕ) (f : ℕ) → 2 ≤ slice_index xs f → HasZero xs ⊎ (length xs < total xs)
more_than_one_each [] f h = absurd (omega arith)
more_than_one_each (zero ∷ xs) f h = inl (0, (omega arith), refl)
more_than_one_each (suc x ∷ xs) zero h = elim (none_or_one_each xs) [ inl g ↦ inl (further (suc x) xs g) | inr g ↦ inr (let e = sums (suc x) xs in omega arith) ]
more_than_one_each (suc x ∷ xs) (suc f) h = elim (more_than_one_each xs f h) [ inl g ↦ inl (further (suc x) xs g) | inr g ↦ inr (let e = sums (suc x) xs in omega arith) ]

-- some place has no page
pub free : (xs : List ℕ) (f : ℕ) → total xs ≤ length xs → 2 ≤ slice_index xs f → HasZero xs
free xs f few two = elim (more_than_one_each xs f two) [ inl g ↦ g | inr more ↦ absurd (omega arith) ]
