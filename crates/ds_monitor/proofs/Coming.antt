-- What is still to come: it is in order, so the first is the earliest.
use Rattle.std.proofs.Common.{◌≡◌, ◌∙◌, ℕ, ◌+◌, ◌<◌, ◌≤◌, Bool, false, cond, not, nat_le, List, [], ◌∷◌, length, filter, drop, refl, sym, ap, subst, arith, Some}
use Rattle.std.specs.Prelude.{slice_index_or, slice_get}
use Rattle.std.specs.List.{All}
use Rattle.std.specs.List.Sorted.{IsNonDecreasingBy}
use Rattle.std.proofs.lemmas.Bool.Decides.{nat_tests}
use Rattle.std.proofs.lemmas.List.{drop_more}
use Rattle.std.proofs.lemmas.List.Elements.{All-head, All-tail}
use Rattle.std.proofs.lemmas.List.Sorted.{IsNonDecreasingBy-drop}
use Rattle.ds_monitor.specs.Inner.Coming.{first_time}

pub later_so : (t now : ℕ) → now < t → nat_le t now ≡ false
later_so t now l = grind (arith, nat_tests)

module _ {X : Type 0} (time : X → ℕ) where
  -- before the first none has come
  pub all_later : (now : ℕ) (xs : List X) → IsNonDecreasingBy time xs → now < first_time time xs → All (λ (x : X). now < time x) xs
  all_later now [] order early = λ k d below. absurd (omega (arith, below))
  all_later now (x ∷ rest) order early = λ k d below. (let first : time x ≤ time (slice_index_or (x ∷ rest) k d) = order 0 k d (omega arith) below in omega (arith, first, early))

  -- what stands at a place is the first from there on
  pub first_from : (xs : List X) (i : ℕ) (x : X) → i < length xs → x ≡ slice_index_or xs i x → drop i xs ≡ x ∷ drop (i + 1) xs
  first_from xs i x within is = drop_more xs i x within ∙ ap (λ (y : X). y ∷ drop (i + 1) xs) (sym is)

  -- the first comes later than a time, and all after it
  pub later_from : (now : ℕ) (xs : List X) (i : ℕ) (x : X) → IsNonDecreasingBy time xs → i < length xs → x ≡ slice_index_or xs i x → now < time x → All (λ (y : X). now < time y) (drop i xs)
  later_from now xs i x order within is late = all_later now (drop i xs) (IsNonDecreasingBy-drop time i xs order) (subst (λ (ys : List X). now < first_time time ys) (sym (first_from xs i x within is)) late)

  -- the same where the first is all that was looked at
  pub later_first : (now : ℕ) (xs : List X) (x : X) → IsNonDecreasingBy time xs → slice_get xs 0 ≡ Some x → now < time x → All (λ (y : X). now < time y) xs
  later_first now [] x order is late = λ k d below. absurd (omega (arith, below))
  later_first now (y ∷ rest) x order is late = let same : y ≡ x = cc in all_later now (y ∷ rest) order (subst (λ (z : X). now < time z) (sym same) late)

  -- of those that come later none is due
  pub none_come : (now : ℕ) (xs : List X) → All (λ (x : X). now < time x) xs → filter (λ (x : X). nat_le (time x) now) xs ≡ []
  none_come now [] later = refl
  none_come now (x ∷ rest) later =
      ap (λ (b : Bool). cond b (x ∷ filter (λ (y : X). nat_le (time y) now) rest) (filter (λ (y : X). nat_le (time y) now) rest)) (later_so (time x) now (All-head (λ (y : X). now < time y) x rest later))
      ∙ none_come now rest (All-tail (λ (y : X). now < time y) x rest later)

  -- and all of them stay
  pub all_stay : (now : ℕ) (xs : List X) → All (λ (x : X). now < time x) xs → filter (λ (x : X). not (nat_le (time x) now)) xs ≡ xs
  all_stay now [] later = refl
  all_stay now (x ∷ rest) later =
      ap (λ (b : Bool). cond (not b) (x ∷ filter (λ (y : X). not (nat_le (time y) now)) rest) (filter (λ (y : X). not (nat_le (time y) now)) rest)) (later_so (time x) now (All-head (λ (y : X). now < time y) x rest later))
      ∙ ap (λ (ys : List X). x ∷ ys) (all_stay now rest (All-tail (λ (y : X). now < time y) x rest later))

  -- before the first none is due
  pub none_due : (now : ℕ) (xs : List X) → IsNonDecreasingBy time xs → now < first_time time xs → filter (λ (x : X). nat_le (time x) now) xs ≡ []
  none_due now xs order early = none_come now xs (all_later now xs order early)
